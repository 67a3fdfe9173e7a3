-- The answer to each call, from the variables declared and the statements accepted before it.
use Rattle.std.specs.Prelude.{◌≡◌, ℕ, suc, ◌<◌, ◌≤◌, Bool, true, false, cond, List, [], ◌∷◌, ◌++◌, length, drop, Ok, Err, Result, nat_le, nat_lt}
use Rattle.std.proofs.Math.Option.{Option, some, none}
use Rattle.std.specs.declared.option.Option as rust
use Rattle.std.specs.declared.option.Option.TheVariants as rust_option
use Rattle.kinds.specs.Meaning.{Meaning}
use Rattle.features.specs.Terms.{Term, Statement, equals, is, apart}
use Rattle.features.specs.Graphs.{Graph}
use Rattle.features.specs.Closing.{Joined, Valued}
use Rattle.features.specs.Holding.{Holds, Listed, aparts_of}
use Rattle.features.specs.Clashes.{NoValue, LeafBranches, FirstAt, Nowhere, Broken}
use Rattle.features.specs.Theorems.{NoClash}
use Rattle.answers.specs.declared.refusal.Side.{Side}
use Rattle.answers.specs.declared.refusal.Refusal.{Refusal}
use Rattle.answers.specs.declared.refusal.Refusal.TheVariants.{Undeclared, LongTerm, NoAttribute, NoSuchValue, ShortTrail, ApartsFull, ValueClash, LeafClash, ApartClash, VariablesFull, NodesFull, ShortBuffer}

-- the first of two faults
abbrev pub first_refusal : Option Refusal → Option Refusal → Option Refusal
first_refusal none b = b
first_refusal (some r) b = some r

-- the first attribute above 31, by its position
abbrev pub above_31 : Side → ℕ → List ℕ → Option Refusal
above_31 side at [] = none
above_31 side at (a ∷ rest) = cond (nat_lt 31 a) (some (NoAttribute side at)) (above_31 side (suc at) rest)

-- what is wrong with one term, where anything is
abbrev pub term_fault : ℕ → Side → Term → Option Refusal
term_fault vars side t =
    first_refusal (cond (nat_lt t.var vars) none (some (Undeclared side)))
    (first_refusal (cond (nat_le (length t.path) 8) none (some (LongTerm side))) (above_31 side 0 t.path))

-- and with two, the left one first
abbrev pub pair_fault : ℕ → Term → Term → Option Refusal
pair_fault vars p q = first_refusal (term_fault vars Side.Left p) (term_fault vars Side.Right q)

abbrev pub terms_fault : ℕ → Statement → Option Refusal
terms_fault vars (equals p q) = pair_fault vars p q
terms_fault vars (is p v) = term_fault vars Side.Left p
terms_fault vars (apart p q) = pair_fault vars p q

abbrev pub value_fault : Meaning → Statement → Option Refusal
value_fault m (equals p q) = none
value_fault m (is p v) = cond (m.value v) none (some NoSuchValue)
value_fault m (apart p q) = none

abbrev pub full_fault : List Statement → Statement → Option Refusal
full_fault said (equals p q) = none
full_fault said (is p v) = none
full_fault said (apart p q) = cond (nat_lt (length (aparts_of said)) 128) none (some ApartsFull)

-- the first ground, apart from what closing shows, on which a statement is refused; `room` is the length of its trail
abbrev pub fault : Meaning → ℕ → List Statement → Statement → ℕ → Option Refusal
fault m vars said s room =
    first_refusal (terms_fault vars s) (first_refusal (value_fault m s) (first_refusal (cond (nat_lt room 272) (some ShortTrail) none) (full_fault said s)))

-- no clash of the first sort, and none of the second
abbrev pub EveryNodeValued : Meaning → ℕ → List Statement → Type 0
EveryNodeValued m vars said = Nowhere m vars said (NoValue m vars said)

abbrev pub EveryLeafBare : Meaning → ℕ → List Statement → Type 0
EveryLeafBare m vars said = Nowhere m vars said (LeafBranches m vars said)

-- the graph of what is said has a number of nodes of which P holds
abbrev pub Nodes : Meaning → ℕ → List Statement → (ℕ → Type 0) → Type 0
Nodes m vars said P = (g : Graph) × Holds m g (aparts_of said) vars said × P g.nodes

-- the trail's attributes stand at the buffer's start, and the rest of the buffer is as it was
abbrev pub noted : Term → List ℕ → List ℕ
noted t before = t.path ++ drop (length t.path) before

-- what closing shows of statements, the newest among them; `before` and the last list are the trail before and after
pub data Closed (m : Meaning) (vars : ℕ) (said : List Statement) (before : List ℕ) : Result (Unit {0}) Refusal → List ℕ → Type 0 where
  no_value : (t : Term) → FirstAt m vars said (NoValue m vars said) t
      → Closed m vars said before (Err (ValueClash t.var (length t.path))) (noted t before)
  leaf_branches : (t : Term) → EveryNodeValued m vars said → FirstAt m vars said (LeafBranches m vars said) t
      → Closed m vars said before (Err (LeafClash t.var (length t.path))) (noted t before)
  not_apart : (i : ℕ) → EveryNodeValued m vars said → EveryLeafBare m vars said
      → Broken m vars said (aparts_of said) i → ((j : ℕ) → j < i → Broken m vars said (aparts_of said) j → ⊥)
      → Closed m vars said before (Err (ApartClash i)) before
  too_many : NoClash m vars said → Nodes m vars said (λ n. 256 < n)
      → Closed m vars said before (Err NodesFull) before
  accepted : NoClash m vars said → Nodes m vars said (λ n. n ≤ 256)
      → Closed m vars said before (Ok tt) before

-- a statement: refused for a fault, or judged by what closing shows of it and all accepted before
pub data Stated (m : Meaning) (vars : ℕ) (said : List Statement) (s : Statement) (before : List ℕ) : Result (Unit {0}) Refusal → List ℕ → Type 0 where
  faulty : {r : Refusal} → fault m vars said s (length before) ≡ some r → Stated m vars said s before (Err r) before
  faultless : {r : Result (Unit {0}) Refusal} {after : List ℕ} → fault m vars said s (length before) ≡ none
      → Closed m vars (said ++ (s ∷ [])) before r after → Stated m vars said s before r after

pub data Declared (m : Meaning) (vars : ℕ) (said : List Statement) : Result ℕ Refusal → Type 0 where
  no_variable : 64 ≤ vars → Declared m vars said (Err VariablesFull)
  no_node : vars < 64 → Nodes m (suc vars) said (λ n. 256 < n) → Declared m vars said (Err NodesFull)
  numbered : vars < 64 → Nodes m (suc vars) said (λ n. n ≤ 256) → Declared m vars said (Ok vars)

pub data Same (vars : ℕ) (said : List Statement) (p q : Term) : Result Bool Refusal → Type 0 where
  faulty : {r : Refusal} → pair_fault vars p q ≡ some r → Same vars said p q (Err r)
  one : pair_fault vars p q ≡ none → Joined vars said p q → Same vars said p q (Ok true)
  not_one : pair_fault vars p q ≡ none → (Joined vars said p q → ⊥) → Same vars said p q (Ok false)

pub data Value (m : Meaning) (vars : ℕ) (said : List Statement) (p : Term) : Result (rust.Option ℕ) Refusal → Type 0 where
  faulty : {r : Refusal} → term_fault vars Side.Left p ≡ some r → Value m vars said p (Err r)
  valued : (v : ℕ) → term_fault vars Side.Left p ≡ none → Joined vars said p p → Valued m vars said p v → Value m vars said p (Ok (rust_option.Some v))
  nothing : term_fault vars Side.Left p ≡ none → (Joined vars said p p → ⊥) → Value m vars said p (Ok rust_option.None)

pub data Listing (m : Meaning) (vars : ℕ) (said : List Statement) (before : List ℕ) : Result ℕ Refusal → List ℕ → Type 0 where
  short : (bytes : List ℕ) → Listed m vars said bytes → length before < length bytes → Listing m vars said before (Err (ShortBuffer (length bytes))) before
  put : (bytes : List ℕ) → Listed m vars said bytes → length bytes ≤ length before
      → Listing m vars said before (Ok (length bytes)) (bytes ++ drop (length bytes) before)

-- a call with what it was given: a statement with its trail, questions by their terms, a listing with its buffer
pub data Call : Type 0 where
  declare : Call
  state : Statement → List ℕ → Call
  ask_same : Term → Term → Call
  ask_value : Term → Call
  list : List ℕ → Call

-- what it answers, and what it leaves in the buffer that it was given
pub data Answer : Type 0 where
  declares : Result ℕ Refusal → Answer
  states : Result (Unit {0}) Refusal → List ℕ → Answer
  says : Result Bool Refusal → Answer
  gives : Result (rust.Option ℕ) Refusal → Answer
  lists : Result ℕ Refusal → List ℕ → Answer

-- the answer is the one laid down
pub data Right (m : Meaning) (vars : ℕ) (said : List Statement) : Call → Answer → Type 0 where
  declared : {r : Result ℕ Refusal} → Declared m vars said r → Right m vars said declare (declares r)
  stated : {s : Statement} {before after : List ℕ} {r : Result (Unit {0}) Refusal} → Stated m vars said s before r after → Right m vars said (state s before) (states r after)
  same : {p q : Term} {r : Result Bool Refusal} → Same vars said p q r → Right m vars said (ask_same p q) (says r)
  value : {p : Term} {r : Result (rust.Option ℕ) Refusal} → Value m vars said p r → Right m vars said (ask_value p) (gives r)
  listed : {before after : List ℕ} {r : Result ℕ Refusal} → Listing m vars said before r after → Right m vars said (list before) (lists r after)

-- how many variables there are after a call
abbrev pub vars_after : ℕ → Answer → ℕ
vars_after vars (declares (Ok n)) = suc vars
vars_after vars (declares (Err r)) = vars
vars_after vars (states r after) = vars
vars_after vars (says r) = vars
vars_after vars (gives r) = vars
vars_after vars (lists r after) = vars

-- and which statements are accepted: one more where the call states it and is not refused
abbrev pub said_after : List Statement → Call → Answer → List Statement
said_after said declare b = said
said_after said (state s before) (states (Ok u) after) = said ++ (s ∷ [])
said_after said (state s before) (states (Err r) after) = said
said_after said (state s before) (declares r) = said
said_after said (state s before) (says r) = said
said_after said (state s before) (gives r) = said
said_after said (state s before) (lists r after) = said
said_after said (ask_same p q) b = said
said_after said (ask_value p) b = said
said_after said (list before) b = said

-- a question, a listing or a refusal, which leaves a session as it was
abbrev pub Idle : Answer → Type 0
Idle (declares (Ok n)) = ⊥
Idle (declares (Err r)) = Unit {0}
Idle (states (Ok u) after) = ⊥
Idle (states (Err r) after) = Unit {0}
Idle (says r) = Unit {0}
Idle (gives r) = Unit {0}
Idle (lists r after) = Unit {0}
