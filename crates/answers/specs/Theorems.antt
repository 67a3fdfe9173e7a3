-- What is proved of answers and of runs.
use Rattle.std.specs.Prelude.{◌≡◌, ℕ, suc, List, [], take, Ok}
use Rattle.kinds.specs.Meaning.{Meaning, Lawful}
use Rattle.features.specs.Terms.{Statement}
use Rattle.features.specs.Graphs.{Graph}
use Rattle.features.specs.Order.{InOrder}
use Rattle.features.specs.Holding.{Holds, aparts_of}
use Rattle.features.specs.Bytes.{Written}
use Rattle.features.specs.Theorems.{NoClash}
use Rattle.answers.specs.Answers.{Call, Answer, list, lists, Right, vars_after, said_after}
use Rattle.answers.specs.Runs.{Exchange, asked, vars_of, said_of, OneAnswer, Step, Run, Promise}

-- Two graphs that hold the same statements have equally many nodes.
abbrev pub EquallyManyNodes : Type 0
EquallyManyNodes =
    (m : Meaning) (g h : Graph) (kept kept' : List Statement) (vars : ℕ) (said : List Statement) →
    Holds m g kept vars said → Holds m h kept' vars said → g.nodes ≡ h.nodes

-- One variable more brings no clash.
abbrev pub DeclaringNeverClashes : Type 0
DeclaringNeverClashes =
    (m : Meaning) → Lawful m → (g : Graph) (kept : List Statement) (vars : ℕ) (said : List Statement) →
    Holds m g kept vars said → NoClash m vars said → NoClash m (suc vars) said

-- A right answer leaves no clash where there was none: what was accepted does not clash, and nothing else is added.
abbrev pub RightAnswersNeverClash : Type 0
RightAnswersNeverClash =
    (m : Meaning) → Lawful m → (g : Graph) (kept : List Statement) (vars : ℕ) (said : List Statement) (c : Call) (a : Answer) →
    Holds m g kept vars said → NoClash m vars said → Right m vars said c a → NoClash m (vars_after vars a) (said_after said c a)

-- Every call has at most one right answer.
abbrev pub AnswersAreUnique : Type 0
AnswersAreUnique = (m : Meaning) → Lawful m → OneAnswer m

-- a graph with the aparts kept beside it
pub record Held : Type 0 where
  pub graph : Graph
  pub kept : List Statement

-- Where each call answers right from what it finds, and leaves what is then to hold, every run from nothing said keeps its promise.
-- (Stated for graphs with their kept aparts; the lemma is for whatever has the two.)
abbrev pub EveryRunKeepsItsPromise : Type 0
EveryRunKeepsItsPromise =
    (m : Meaning) → Lawful m → (s : Held) →
    Holds m s.graph s.kept 0 [] → Promise (λ h. h.graph) (λ h. h.kept) m s

-- What is listed after a run can be read back: its bytes are those of a feature graph within the limits, in listing order, that holds what was said.
abbrev pub ListedCanBeRead : Type 0
ListedCanBeRead =
    (m : Meaning) → Lawful m → (s t u : Held) (es : List Exchange) (before after : List ℕ) (n : ℕ) →
    Holds m s.graph s.kept 0 [] → Run (λ h. h.graph) (λ h. h.kept) m s es t →
    Step (λ h. h.graph) (λ h. h.kept) m t (asked (list before) (lists (Ok n) after)) u →
    (g : Graph) × Written m (take n after) g × InOrder g × Holds m g (aparts_of (said_of [] es)) (vars_of 0 es) (said_of [] es)
