-- The answers to questions, from the graph of what holds the statements.
use Rattle.std.proofs.Common.{◌≡◌, ℕ, Bool, true, false, List, Ok, Err, MatchBool, Result, refl, subst}
use mathlib.Core.Option.{some, none}
use Rattle.std.specs.declared.option.Option as rust
use Rattle.std.specs.declared.option.Option.TheVariants as rust_option
use Rattle.kinds.specs.Meaning.{Meaning}
use Rattle.features.specs.Terms.{Term, Statement}
use Rattle.features.specs.Graphs.{Graph, Denotes}
use Rattle.growth.specs.Joins.{OneNode}
use Rattle.answers.specs.declared.refusal.Side.{Side}
use Rattle.answers.specs.declared.refusal.Refusal.{Refusal}
use Rattle.answers.specs.Answers.{pair_fault, term_fault, Same, one, not_one, Value, valued, nothing, same, value, ask_same, says, ask_value, gives}
use Rattle.answers.specs.Runs.{asked, Has, Step}

module _ {S : Type 0} (graph : S → Graph) (kept : S → List Statement) (m : Meaning) (s : S) where
  -- a question changes nothing
  same_asked : (p q : Term) (r : Result Bool Refusal) → ((vars : ℕ) (said : List Statement) → Has graph kept m s vars said → Same vars said p q r)
      → Step graph kept m s (asked (ask_same p q) (says r)) s
  same_asked p q r right = record { right = λ vars said has. same (right vars said has); holds = λ vars said has. has; unaltered = λ _. (refl, refl) }

  value_asked : (p : Term) (r : Result (rust.Option ℕ) Refusal) → ((vars : ℕ) (said : List Statement) → Has graph kept m s vars said → Value m vars said p r)
      → Step graph kept m s (asked (ask_value p) (gives r)) s
  value_asked p r right = record { right = λ vars said has. value (right vars said has); holds = λ vars said has. has; unaltered = λ _. (refl, refl) }

  module _ (p q : Term) where
    pub same_refused : (r : Refusal) → pair_fault (graph s).vars p q ≡ some r → Step graph kept m s (asked (ask_same p q) (says (Err r))) s
    same_refused r e = same_asked p q (Err r) (λ vars said has. Same.faulty (subst (λ (n : ℕ). pair_fault n p q ≡ some r) has.holds.all e))

    pub same_told : (r : Bool) → pair_fault (graph s).vars p q ≡ none → MatchBool r (OneNode (graph s) p q) (OneNode (graph s) p q → ⊥)
        → Step graph kept m s (asked (ask_same p q) (says (Ok r))) s
    same_told true e d = same_asked p q (Ok true) (λ vars said has.
        one (subst (λ (n : ℕ). pair_fault n p q ≡ none) has.holds.all e) (has.holds.nothing_else p q d.0 d.1 d.2))
    same_told false e d = same_asked p q (Ok false) (λ vars said has.
        not_one (subst (λ (n : ℕ). pair_fault n p q ≡ none) has.holds.all e) (λ j. d (has.holds.joined p q j)))

  module _ (p : Term) where
    pub value_refused : (r : Refusal) → term_fault (graph s).vars Side.Left p ≡ some r → Step graph kept m s (asked (ask_value p) (gives (Err r))) s
    value_refused r e = value_asked p (Err r) (λ vars said has. Value.faulty (subst (λ (n : ℕ). term_fault n Side.Left p ≡ some r) has.holds.all e))

    module _ (free : term_fault (graph s).vars Side.Left p ≡ none) where
      pub value_found : (n : ℕ) → Denotes (graph s) p n → Step graph kept m s (asked (ask_value p) (gives (Ok (rust_option.Some ((graph s).value n))))) s
      value_found n d = value_asked p (Ok (rust_option.Some ((graph s).value n))) (λ vars said has.
          valued ((graph s).value n) (subst (λ (n : ℕ). term_fault n Side.Left p ≡ none) has.holds.all free) (has.holds.nothing_else p p n d d) (has.holds.values p n d))

      pub value_absent : ((n : ℕ) → Denotes (graph s) p n → ⊥) → Step graph kept m s (asked (ask_value p) (gives (Ok rust_option.None))) s
      value_absent never = value_asked p (Ok rust_option.None) (λ vars said has.
          nothing (subst (λ (n : ℕ). term_fault n Side.Left p ≡ none) has.holds.all free) (λ j. let d = has.holds.joined p p j in never d.0 d.1))
