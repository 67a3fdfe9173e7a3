-- Runs of calls, and what is promised of them: for anything that holds a graph and kept aparts, whatever it is made of.
use Rattle.std.specs.Prelude.{◌≡◌, ℕ, List, [], ◌∷◌, ◌++◌, map, length, take, Ok, Result}
use Rattle.std.proofs.Math.Option.{none}
use Rattle.kinds.specs.Meaning.{Meaning}
use Rattle.features.specs.Terms.{Statement, SameMembers}
use Rattle.features.specs.Graphs.{Graph, Model, OneMap}
use Rattle.features.specs.Holding.{Holds, Listed}
use Rattle.features.specs.Theorems.{NoClash}
use Rattle.answers.specs.Refusals.{Clashes}
use Rattle.answers.specs.Answers.{Call, state, list, Answer, states, lists, Right, Idle, fault, vars_after, said_after}
use Rattle.answers.specs.declared.refusal.Refusal.{Refusal}

-- one call of a run: what was asked and what was answered
pub record Exchange : Type 0 where
  pub call : Call
  pub answer : Answer

abbrev pub asked : Call → Answer → Exchange
asked c a = record { call = c; answer = a }

-- variables and accepted statements after a run
abbrev pub vars_of : ℕ → List Exchange → ℕ
vars_of vars [] = vars
vars_of vars (e ∷ es) = vars_of (vars_after vars e.answer) es

abbrev pub said_of : List Statement → List Exchange → List Statement
said_of said [] = said
said_of said (e ∷ es) = said_of (said_after said e.call e.answer) es

-- every answer is the one laid down from the calls before it alone
abbrev pub AllRight : Meaning → ℕ → List Statement → List Exchange → Type 0
AllRight m vars said [] = Unit {0}
AllRight m vars said (e ∷ es) =
    Right m vars said e.call e.answer × AllRight m (vars_after vars e.answer) (said_after said e.call e.answer) es

-- for what was said before and a call with what it is given, at most one answer with its buffer is right
abbrev pub OneAnswer : Meaning → Type 0
OneAnswer m = (vars : ℕ) (said : List Statement) (c : Call) (a b : Answer) → Right m vars said c a → Right m vars said c b → a ≡ b

module _ {S : Type 0} (graph : S → Graph) (kept : S → List Statement) where
  -- s holds these variables and statements, and they do not clash
  pub record Has (m : Meaning) (s : S) (vars : ℕ) (said : List Statement) : Type 0 where
    pub holds : Holds m (graph s) (kept s) vars said
    pub no_clash : NoClash m vars said

  -- what a call promises that finds s and leaves t: its answer is right for whatever was said before, and t then holds what is said after
  pub record Step (m : Meaning) (s : S) (e : Exchange) (t : S) : Type 0 where
    pub right : (vars : ℕ) (said : List Statement) → Has m s vars said → Right m vars said e.call e.answer
    pub holds : (vars : ℕ) (said : List Statement) → Has m s vars said → Has m t (vars_after vars e.answer) (said_after said e.call e.answer)
    pub unaltered : Idle e.answer → (graph t ≡ graph s) × (kept t ≡ kept s)

  pub data Run (m : Meaning) : S → List Exchange → S → Type 0 where
    done : {s : S} → Run m s [] s
    call : {s t u : S} {e : Exchange} {es : List Exchange} → Step m s e t → Run m t es u → Run m s (e ∷ es) u

  -- what is promised of every run from s on
  pub record Promise (m : Meaning) (s : S) : Type 0 where
    pub fresh : Has m s 0 []
    -- every answer is right, and no other would be
    pub right : (es : List Exchange) (t : S) → Run m s es t → AllRight m 0 [] es
    pub one_answer : OneAnswer m
    -- another session, asked the same, answers the same
    pub same_answers : (s' : S) → Has m s' 0 [] → (es es' : List Exchange) (t t' : S) → Run m s es t → Run m s' es' t'
        → map (λ e. e.call) es ≡ map (λ e. e.call) es' → es ≡ es'
    -- refused as a clash exactly when no finite feature graph satisfies it and all accepted before
    pub clashes : (es : List Exchange) (t : S) → Run m s es t
        → (st : Statement) (before after : List ℕ) (r : Result (Unit {0}) Refusal) (u : S) → Step m t (asked (state st before) (states r after)) u
        → fault m (vars_of 0 es) (said_of [] es) st (length before) ≡ none
        → (Clashes r → (g : Graph) → Model m (vars_of 0 es) (said_of [] es ++ (st ∷ [])) g → ⊥)
        × (((g : Graph) → Model m (vars_of 0 es) (said_of [] es ++ (st ∷ [])) g → ⊥) → Clashes r)
    -- the graph satisfies all accepted statements, and exactly one map leads from it into each finite feature graph that does
    pub satisfies : (es : List Exchange) (t : S) → Run m s es t → Model m (vars_of 0 es) (said_of [] es) (graph t)
    pub one_map : (es : List Exchange) (t : S) → Run m s es t → (h : Graph) → Model m (vars_of 0 es) (said_of [] es) h → OneMap m (graph t) h
    -- what is listed is the listing of what was said
    pub lists_said : (es : List Exchange) (t : S) → Run m s es t → (before after : List ℕ) (n : ℕ) (u : S)
        → Step m t (asked (list before) (lists (Ok n) after)) u → Listed m (vars_of 0 es) (said_of [] es) (take n after)
    -- another session with as many variables and the same set of statements lists the same, whatever the order and the buffers
    pub one_listing : (s' : S) → Has m s' 0 [] → (es es' : List Exchange) (t t' : S) → Run m s es t → Run m s' es' t'
        → vars_of 0 es ≡ vars_of 0 es' → SameMembers (said_of [] es) (said_of [] es')
        → (before before' after after' : List ℕ) (n n' : ℕ) (u u' : S)
        → Step m t (asked (list before) (lists (Ok n) after)) u → Step m t' (asked (list before') (lists (Ok n') after')) u'
        → (n ≡ n') × (take n after ≡ take n' after')
