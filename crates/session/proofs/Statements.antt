-- Statements that change the graph: refused and leaving all as it was, or accepted.
use Rattle.std.proofs.Common.{◌≡◌, ℕ, ◌<◌, ◌≤◌, Bool, true, false, cond, ltb, ◌⊎◌, List, [], ◌∷◌, ◌++◌, length, Ok, Err, Result, sym, refl, ap, ◌∙◌, subst, subst₂, inl, inr, le-ltb, lt-ltb}
use mathlib.Core.Option.{Option, some, none}
use mathlib.Core.List.Memᴰ
use mathlib.Core.List.{Memᴰ}
use Rattle.kinds.specs.Meaning.{Meaning, Lawful}
use Rattle.features.specs.Terms.{Term, Statement, equals, is, apart}
use Rattle.features.specs.Graphs.{Graph}
use Rattle.features.specs.Holding.{Proper, Holds, aparts_of}
use Rattle.growth.specs.Standing.{Stands}
use Rattle.growth.proofs.Declaring.{empty_stands}
use Rattle.growth.proofs.Holding.{holding_stands, standing_holds}
use Rattle.closing.specs.declared.closer.Closer.{Closer}
use Rattle.closing.specs.Closings.{Arranged, closed_graph, closed_state}
use Rattle.answers.specs.declared.refusal.Side.{Side}
use Rattle.answers.specs.declared.refusal.Refusal.{Refusal}
use Rattle.answers.specs.declared.refusal.Refusal.TheVariants.{NoSuchValue, ShortTrail}
use Rattle.answers.specs.Answers.{first_refusal, pair_fault, term_fault, value_fault, fault, Closed, Stated, faultless, stated, state, states}
use Rattle.answers.specs.Runs.{asked, Has, Step}
use Rattle.answers.proofs.Keeping.{step_taken}
use Rattle.session.specs.Judging.{Ready}

-- a statement that is no apart adds none
same_aparts : (said : List Statement) (s : Statement) → aparts_of (s ∷ []) ≡ [] → aparts_of (said ++ (s ∷ [])) ≡ aparts_of said
same_aparts [] s e = e
same_aparts (equals p q ∷ rest) s e = same_aparts rest s e
same_aparts (is p v ∷ rest) s e = same_aparts rest s e
same_aparts (apart p q ∷ rest) s e = ap {B = List Statement} (λ r. apart p q ∷ r) (same_aparts rest s e)

-- what is wrong with a statement that is no apart: its terms, its value, its trail
module _ (m : Meaning) (vars : ℕ) (said : List Statement) (room : ℕ) where
  abbrev past_terms : Statement → Option Refusal → Option Refusal
  past_terms s o = first_refusal o (first_refusal (value_fault m s) (first_refusal (cond (ltb room 272) (some ShortTrail) none) none))

  pub equation_terms : (p q : Term) (o : Option Refusal) → pair_fault vars p q ≡ o → fault m vars said (equals p q) room ≡ past_terms (equals p q) o
  equation_terms p q o e = ap (past_terms (equals p q)) e

  pub value_terms : (p : Term) (v : ℕ) (o : Option Refusal) → term_fault vars Side.Left p ≡ o → fault m vars said (is p v) room ≡ past_terms (is p v) o
  value_terms p v o e = ap (past_terms (is p v)) e

  pub short_trail : room < 272 → first_refusal (cond (ltb room 272) (some ShortTrail) none) none ≡ some ShortTrail
  short_trail l = ap (λ (b : Bool). first_refusal (cond b (some ShortTrail) none) none) (lt-ltb room 272 l)

  pub long_trail : 272 ≤ room → first_refusal (cond (ltb room 272) (some ShortTrail) none) none ≡ none
  long_trail l = ap (λ (b : Bool). first_refusal (cond b (some ShortTrail) none) none) (le-ltb room 272 l)

  -- and of a value
  pub no_value_there : (p : Term) (v : ℕ) → term_fault vars Side.Left p ≡ none → m.value v ≡ false → fault m vars said (is p v) room ≡ some NoSuchValue
  no_value_there p v e f =
      value_terms p v none e ∙ ap (λ (b : Bool). first_refusal (cond b none (some NoSuchValue)) (first_refusal (cond (ltb room 272) (some ShortTrail) none) none)) f

  pub value_there : (p : Term) (v : ℕ) (o : Option Refusal) → term_fault vars Side.Left p ≡ none → m.value v ≡ true → first_refusal (cond (ltb room 272) (some ShortTrail) none) none ≡ o → fault m vars said (is p v) room ≡ o
  value_there p v o e f t =
      value_terms p v none e ∙ ap (λ (b : Bool). first_refusal (cond b none (some NoSuchValue)) (first_refusal (cond (ltb room 272) (some ShortTrail) none) none)) f ∙ t

module _ {S : Type 0} (graph : S → Graph) (kept : S → List Statement) (m : Meaning) (lawful : Lawful m) (s t : S) where
  -- refused: what was held is held
  pub refused_leaving : graph t ≡ graph s → kept t ≡ kept s → (st : Statement) (before after : List ℕ) (r : Refusal)
      → ((vars : ℕ) (said : List Statement) → Has graph kept m s vars said → Stated m vars said st before (Err r) after)
      → Step graph kept m s (asked (state st before) (states (Err r) after)) t
  refused_leaving same same_kept st before after r right =
      step_taken graph kept m lawful s t (state st before) (states (Err r) after) (λ vars said has. stated (right vars said has))
      (λ vars said has. subst₂ (λ (g : Graph) (k : List Statement). Holds m g k vars said) (sym same) (sym same_kept) has.holds) (λ idle. (same, same_kept))

  module _ (st : Statement) (c : Closer) (arranged : Arranged c) (before : List ℕ) (no-apart : aparts_of (st ∷ []) ≡ []) (good : Proper m (graph s).vars st)
      (free : (said : List Statement) → fault m (graph s).vars said st (length before) ≡ none)
      (closes : (said : List Statement) → Stands m (graph s) (λ n. some ((graph s).value n)) (graph s).vars said → Stands m (closed_graph c) (closed_state c) (graph s).vars (said ++ (st ∷ []))) where
    -- whatever is held, the closed graph is ready to be judged with the statement
    pub ready_after : (vars : ℕ) (said : List Statement) → Has graph kept m s vars said → Ready m (kept s) c vars (said ++ (st ∷ []))
    ready_after vars said has =
        let all = has.holds.all in
        let stands = holding_stands m (graph s) (kept s) vars said has.holds in
        record {
          stands = subst (λ (n : ℕ). Stands m (closed_graph c) (closed_state c) n (said ++ (st ∷ []))) all
              (closes said (subst (λ (n : ℕ). Stands m (graph s) (λ k. some ((graph s).value k)) n said) (sym all) stands));
          proper = λ r i. pick r (Memᴰ.append_cases said i);
          aparts = has.holds.aparts ∙ sym (same_aparts said st no-apart);
        }
      where
        pick : (r : Statement) → Memᴰ r said ⊎ Memᴰ r (st ∷ []) → Proper m vars r
        pick r (inl j) = has.holds.proper r j
        pick r (inr j) = subst (Proper m vars) (sym (Memᴰ.eq_of_singleton j)) (subst (λ (n : ℕ). Proper m n st) has.holds.all good)

    module _ (r : Result (Unit {0}) Refusal) (after : List ℕ) (judged : (vars : ℕ) (said : List Statement) → Ready m (kept s) c vars said → Closed m vars said before r after) where
      pub right_after : (vars : ℕ) (said : List Statement) → Has graph kept m s vars said → Stated m vars said st before r after
      right_after vars said has =
          faultless (subst (λ (n : ℕ). fault m n said st (length before) ≡ none) has.holds.all (free said)) (judged vars (said ++ (st ∷ [])) (ready_after vars said has))

  -- accepted: the closed graph is held from now on
  pub accepted_leaving : (st : Statement) (before after : List ℕ)
      → ((vars : ℕ) (said : List Statement) → Has graph kept m s vars said → Stated m vars said st before (Ok tt) after)
      → ((vars : ℕ) (said : List Statement) → Has graph kept m s vars said → Holds m (graph t) (kept t) vars (said ++ (st ∷ [])))
      → Step graph kept m s (asked (state st before) (states (Ok tt) after)) t
  accepted_leaving st before after right holds =
      step_taken graph kept m lawful s t (state st before) (states (Ok tt) after) (λ vars said has. stated (right vars said has)) holds (λ idle. absurd idle)

-- nothing is said at first
pub empty_held : (m : Meaning) (g : Graph) (kept : List Statement) → g.nodes ≡ 0 → g.vars ≡ 0 → kept ≡ [] → Holds m g kept 0 []
empty_held m g kept no_Node no_variable none_kept =
    standing_holds m g (λ n. some (g.value n)) kept 0 [] (empty_stands m g (λ n. some (g.value n)) no_Node no_variable) (λ n lt. refl) (λ s i. elim i [ ]) none_kept
