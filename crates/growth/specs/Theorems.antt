-- What is proved of graphs that stand for what was said, and of how they change.
use Rattle.std.specs.Prelude.{◌≡◌, ℕ, suc, ◌<◌}
use Rattle.std.proofs.Math.Option.{Option, some}
use mathlib.Core.List.{List, [], ◌∷◌, ◌++◌, Memᴰ}
use Rattle.kinds.specs.Meaning.{Meaning, Lawful}
use Rattle.features.specs.Terms.{Term, Statement, equals, is, apart, ◌▸◌, SameMembers}
use Rattle.features.specs.Graphs.{Graph, Denotes}
use Rattle.features.specs.Closing.{Joined, Came}
use Rattle.features.specs.Holding.{Proper, aparts_of, Holds}
use Rattle.growth.specs.Standing.{Stands}
use Rattle.growth.specs.Changes.{NewVariable, NewNode, Grown, Given, Quotient}

-- A graph with no node and no variable stands for nothing said.
abbrev pub EmptyStands : Type 0
EmptyStands = (m : Meaning) (g : Graph) (state : ℕ → Option ℕ) → g.nodes ≡ 0 → g.vars ≡ 0 → Stands m g state 0 []

-- s says nothing more than said: the terms of an equation are joined already, and the value of a term came to it already.
-- An apart joins nothing and gives nothing.
abbrev pub Follows : Meaning → ℕ → List Statement → Statement → Type 0
Follows m vars said (equals p q) = Joined vars said p q
Follows m vars said (is p v) = Joined vars said p p × Came m vars said p v
Follows m vars said (apart p q) = Unit {0}

-- said' says nothing more than said
abbrev pub AllFollow : Meaning → ℕ → List Statement → List Statement → Type 0
AllFollow m vars said said' = (s : Statement) → Memᴰ s said' → Follows m vars said s

-- A graph that stands for statements stands for all that say the same.
abbrev pub SayingTheSameStandsAlike : Type 0
SayingTheSameStandsAlike =
    (m : Meaning) (g : Graph) (state : ℕ → Option ℕ) (vars : ℕ) (said said' : List Statement) →
    AllFollow m vars said said' → AllFollow m vars said' said →
    Stands m g state vars said → Stands m g state vars said'

-- The order of statements and how often each was said do not matter.
abbrev pub OrderAndRepetitionDoNotMatter : Type 0
OrderAndRepetitionDoNotMatter =
    (m : Meaning) (g : Graph) (state : ℕ → Option ℕ) (vars : ℕ) (said said' : List Statement) →
    SameMembers said said' → Stands m g state vars said → Stands m g state vars said'

-- One variable more, on a node of its own with the top and no attribute, adds nothing to what was said.
abbrev pub NewVariableStands : Type 0
NewVariableStands =
    (m : Meaning) → Lawful m → (g h : Graph) (state state' : ℕ → Option ℕ) (vars : ℕ) (said : List Statement) →
    Stands m g state vars said → NewVariable m.top g state h state' → Stands m h state' (suc vars) said

-- One node more, at an attribute of the node of p, says that p with the attribute is there. Every term keeps its node.
abbrev pub NewNodeStands : Type 0
NewNodeStands =
    (m : Meaning) → Lawful m → (g h : Graph) (state state' : ℕ → Option ℕ) (vars : ℕ) (said : List Statement) (p : Term) (n a : ℕ) →
    Stands m g state vars said → Denotes g p n → NewNode m.top n a g state h state' →
    Stands m h state' vars (said ++ (is (p ▸ a) m.top ∷ [])) × ((q : Term) (k : ℕ) → Denotes g q k → Denotes h q k)

-- p followed by more attributes
abbrev pub ◌▹◌ : Term → List ℕ → Term
p ▹ path = record { var = p.var; path = p.path ++ path }

infixl 80 ◌▹◌
-- what was said, and that p is there
abbrev pub mentioning : Meaning → List Statement → Term → List Statement
mentioning m said p = said ++ (is p m.top ∷ [])

-- h came from g by a path grown, which ends at e: it stands for what was said and that t is there, and t denotes e.
-- Every term keeps its node.
pub record GrownTo (m : Meaning) (g h : Graph) (state' : ℕ → Option ℕ) (vars : ℕ) (said : List Statement) (t : Term) (e : ℕ) : Type 0 where
  pub stands : Stands m h state' vars (mentioning m said t)
  pub ends_there : Denotes h t e
  pub keeps : (q : Term) (k : ℕ) → Denotes g q k → Denotes h q k
  pub vars_same : h.vars ≡ g.vars

-- A path grown from the node of p says that p followed by the path is there, and nothing else.
abbrev pub GrownStands : Type 0
GrownStands =
    (m : Meaning) → Lawful m → (g h : Graph) (state state' : ℕ → Option ℕ) (vars : ℕ) (said : List Statement) (p : Term) (n e : ℕ) (path : List ℕ) →
    Stands m g state vars said → Denotes g p n → Grown m.top g state n path h state' e →
    GrownTo m g h state' vars said (p ▹ path) e

-- A term grown from the root of its variable is there.
abbrev pub TermGrownStands : Type 0
TermGrownStands =
    (m : Meaning) → Lawful m → (g h : Graph) (state state' : ℕ → Option ℕ) (vars : ℕ) (said : List Statement) (p : Term) (e : ℕ) →
    Stands m g state vars said → p.var < vars → Grown m.top g state (g.root p.var) p.path h state' e →
    GrownTo m g h state' vars said p e

-- Two terms grown one after the other are there, each at the end of its path.
abbrev pub PairGrownStands : Type 0
PairGrownStands =
    (m : Meaning) → Lawful m → (g f h : Graph) (state between state' : ℕ → Option ℕ) (vars : ℕ) (said : List Statement) (p q : Term) (s t : ℕ) →
    Stands m g state vars said → p.var < vars → q.var < vars →
    Grown m.top g state (g.root p.var) p.path f between s → Grown m.top f between (f.root q.var) q.path h state' t →
    GrownTo m g h state' vars (mentioning m said p) q t × Denotes h p s

-- An equation says that its terms are there.
abbrev pub EquationMentionsItsTerms : Type 0
EquationMentionsItsTerms =
    (m : Meaning) (g : Graph) (state : ℕ → Option ℕ) (vars : ℕ) (said : List Statement) (p q : Term) →
    Stands m g state vars (mentioning m (mentioning m said p) q ++ (equals p q ∷ [])) → Stands m g state vars (said ++ (equals p q ∷ []))

-- A value given to a term says that the term is there.
abbrev pub ValueMentionsItsTerm : Type 0
ValueMentionsItsTerm =
    (m : Meaning) (g : Graph) (state : ℕ → Option ℕ) (vars : ℕ) (said : List Statement) (p : Term) (v : ℕ) →
    Stands m g state vars (mentioning m said p ++ (is p v ∷ [])) → Stands m g state vars (said ++ (is p v ∷ []))

-- An equation closed: its terms are grown from the roots of their variables, and then their nodes are joined.
abbrev pub EquationStands : Type 0
EquationStands =
    (m : Meaning) → Lawful m → (g f k h : Graph) (state between grown state' : ℕ → Option ℕ) (vars : ℕ) (said : List Statement) (p q : Term) (s t : ℕ) (become : ℕ → ℕ) →
    Stands m g state vars said → p.var < vars → q.var < vars →
    Grown m.top g state (g.root p.var) p.path f between s → Grown m.top f between (f.root q.var) q.path k grown t →
    Quotient m s t k grown become h state' → Stands m h state' vars (said ++ (equals p q ∷ []))

-- A value closed: the term is grown from the root of its variable, and then the value comes to its node.
abbrev pub ValueOfTermStands : Type 0
ValueOfTermStands =
    (m : Meaning) → Lawful m → (g k h : Graph) (state grown state' : ℕ → Option ℕ) (vars : ℕ) (said : List Statement) (p : Term) (e v : ℕ) →
    Stands m g state vars said → p.var < vars → Grown m.top g state (g.root p.var) p.path k grown e →
    Given m e v k grown h state' → Stands m h state' vars (said ++ (is p v ∷ []))

-- An apart changes nothing of the graph.
abbrev pub ApartChangesNothing : Type 0
ApartChangesNothing =
    (m : Meaning) (g : Graph) (state : ℕ → Option ℕ) (vars : ℕ) (said : List Statement) (p q : Term) →
    Stands m g state vars said → Stands m g state vars (said ++ (apart p q ∷ []))

-- the same nodes, variables and attributes, with whatever values
pub record SameShape (g h : Graph) : Type 0 where
  pub nodes : h.nodes ≡ g.nodes
  pub vars : h.vars ≡ g.vars
  pub roots : (x : ℕ) → x < g.vars → h.root x ≡ g.root x
  pub edges : (n a : ℕ) → n < g.nodes → h.edge n a ≡ g.edge n a

-- What a graph stands for depends on its nodes, variables and attributes and on what stands on its nodes, and on nothing else.
abbrev pub SameShapeStandsAlike : Type 0
SameShapeStandsAlike =
    (m : Meaning) (g h : Graph) (state state' : ℕ → Option ℕ) (vars : ℕ) (said : List Statement) →
    SameShape g h → ((n : ℕ) → n < g.nodes → state' n ≡ state n) → Stands m g state vars said → Stands m h state' vars said

-- the value of every node stands on it
abbrev pub ValuesStand : Graph → (ℕ → Option ℕ) → Type 0
ValuesStand g state = (n : ℕ) → n < g.nodes → state n ≡ some (g.value n)

-- A graph that stands for proper statements, and on every node of which its value stands, holds them.
abbrev pub StandingHolds : Type 0
StandingHolds =
    (m : Meaning) (g : Graph) (state : ℕ → Option ℕ) (kept : List Statement) (vars : ℕ) (said : List Statement) →
    Stands m g state vars said → ValuesStand g state → ((s : Statement) → Memᴰ s said → Proper m vars s) → kept ≡ aparts_of said →
    Holds m g kept vars said

-- A graph that holds statements stands for them with its values.
abbrev pub HoldingStands : Type 0
HoldingStands =
    (m : Meaning) (g : Graph) (kept : List Statement) (vars : ℕ) (said : List Statement) →
    Holds m g kept vars said → Stands m g (λ n. some (g.value n)) vars said

-- Where one statement more, a proper one, leaves a value on every node, the graph holds it with the others, and it is kept if it is an apart.
abbrev pub AcceptedHolds : Type 0
AcceptedHolds =
    (m : Meaning) (g h : Graph) (state : ℕ → Option ℕ) (kept kept' : List Statement) (vars : ℕ) (said : List Statement) (s : Statement) →
    Holds m g kept vars said → Proper m vars s → Stands m h state vars (said ++ (s ∷ [])) → ValuesStand h state →
    kept' ≡ kept ++ aparts_of (s ∷ []) → Holds m h kept' vars (said ++ (s ∷ []))

-- A graph that holds statements, with one variable more on a node of its own, holds them still.
abbrev pub DeclaredHolds : Type 0
DeclaredHolds =
    (m : Meaning) → Lawful m → (g h : Graph) (state' : ℕ → Option ℕ) (kept : List Statement) (vars : ℕ) (said : List Statement) →
    Holds m g kept vars said → NewVariable m.top g (λ n. some (g.value n)) h state' → ValuesStand h state' → Holds m h kept (suc vars) said
