-- What is promised of every run, from what each of its calls promises.
use Rattle.std.proofs.Common.{◌≡◌, ℕ, List, [], ◌∷◌, ◌++◌, map, length, take, drop, Ok, Result, sym, refl, ap, subst, arith}
use mathlib.Core.Option as option
use lib.Seq.{take-append_seam}
use Rattle.kinds.specs.Meaning.{Meaning, Lawful}
use Rattle.features.specs.Terms.{Statement, SameMembers}
use Rattle.features.specs.Graphs.{Graph, Model, OneMap}
use Rattle.features.specs.Order.{InOrder}
use Rattle.features.specs.Holding.{Holds, Listed, aparts_of}
use Rattle.features.specs.Bytes.{Written}
use Rattle.features.specs.Theorems as features
use Rattle.features.proofs.Closure.{apart_said, broken_is}
use Rattle.features.proofs.Clashing.{no_clash}
use Rattle.features.proofs.General.{held_model, most_general}
use Rattle.features.proofs.Unique.{one_listing}
use Rattle.answers.specs.declared.refusal.Refusal.{Refusal}
use Rattle.answers.specs.Refusals.{Clashes}
use Rattle.answers.specs.Answers.{Call, state, list, states, lists, Right, Stated, Closed, fault, vars_after, said_after}
use Rattle.answers.specs.Answers.{no_value, leaf_branches, not_apart, too_many, accepted, faultless, put, stated, listed}
use Rattle.answers.specs.Runs.{Exchange, asked, vars_of, said_of, AllRight, Has, Step, Run, done, call, Promise}
use Rattle.answers.proofs.Answering.{not_none, answers_are_unique}
use Rattle.answers.proofs.Limits.{Bounded, bounded_at_first, bounded_after, readable}

module _ (m : Meaning) (lawful : Lawful m) (vars : ℕ) (said : List Statement) where
  -- what is refused as a clash has no model
  clash_has_no_model : {before after : List ℕ} {r : Result (Unit {0}) Refusal} → Closed m vars said before r after → Clashes r → (g : Graph) → Model m vars said g → ⊥
  clash_has_no_model (no_value t at) clash g model = no_clash m lawful vars said g model (features.no_value t at.trail.denotes at.faulty)
  clash_has_no_model (leaf_branches t n at) clash g model = no_clash m lawful vars said g model (features.leaf_branches t at.faulty)
  clash_has_no_model (not_apart i n l broken least) clash g model =
      let b = broken_is m vars said broken in
      no_clash m lawful vars said g model (features.one_node b.0 b.1 (apart_said said b.2) b.3)
  clash_has_no_model (too_many none many) clash g model = clash
  clash_has_no_model (accepted none few) clash g model = clash

  -- and what has no model is refused as a clash
  no_model_clashes : {before after : List ℕ} {r : Result (Unit {0}) Refusal} → Closed m vars said before r after → ((g : Graph) → Model m vars said g → ⊥) → Clashes r
  no_model_clashes (no_value t at) never = tt
  no_model_clashes (leaf_branches t n at) never = tt
  no_model_clashes (not_apart i n l broken least) never = tt
  no_model_clashes (too_many none (g, holds, many)) never = never g (held_model m lawful g (aparts_of said) vars said holds none)
  no_model_clashes (accepted none (g, holds, few)) never = never g (held_model m lawful g (aparts_of said) vars said holds none)

-- what a statement without a fault was judged by
judged : {m : Meaning} {vars : ℕ} {said : List Statement} {s : Statement} {before after : List ℕ} {r : Result (Unit {0}) Refusal}
    → Right m vars said (state s before) (states r after) → fault m vars said s (length before) ≡ option.none → Closed m vars (said ++ (s ∷ [])) before r after
judged (stated (Stated.faulty e)) free = absurd (not_none e free)
judged (stated (faultless e closed)) free = closed

-- what was put into the buffer is the listing, and its length was answered
put_there : {m : Meaning} {vars : ℕ} {said : List Statement} {before after : List ℕ} {n : ℕ}
    → Right m vars said (list before) (lists (Ok n) after) → Listed m vars said (take n after) × (n ≡ length (take n after))
put_there {m} {vars} {said} {before} (listed (put bytes l fits)) =
    let whole = take-append_seam bytes (drop (length bytes) before) in
    (subst (λ (z : List ℕ). Listed m vars said z) (sym whole) l, sym (ap length whole))

-- the same calls have the same answers
same_answers : (m : Meaning) → Lawful m → (vars : ℕ) (said : List Statement) (es es' : List Exchange) → AllRight m vars said es → AllRight m vars said es'
    → map (λ e. e.call) es ≡ map (λ e. e.call) es' → es ≡ es'
same_answers m lawful vars said [] [] all all' calls = refl
same_answers m lawful vars said [] (e ∷ es) all all' calls = absurd (let z : ◌≡◌ {A = ℕ} 0 1 = cc in omega arith)
same_answers m lawful vars said (e ∷ es) [] all all' calls = absurd (let z : ◌≡◌ {A = ℕ} 0 1 = cc in omega arith)
same_answers m lawful vars said (e ∷ es) (f ∷ fs) (right, all) (right', all') calls =
    let called : e.call ≡ f.call = cc in
    let answered : e.answer ≡ f.answer = answers_are_unique m lawful vars said e.call e.answer f.answer right (subst (λ (z : Call). Right m vars said z f.answer) (sym called) right') in
    let one : f ≡ e = λ i. record { call = sym called i; answer = sym answered i } in
    let rest : map (λ e. e.call) es ≡ map (λ e. e.call) fs = cc in
    let tails = same_answers m lawful (vars_after vars e.answer) (said_after said e.call e.answer) es fs all (subst (λ (z : Exchange). AllRight m (vars_after vars z.answer) (said_after said z.call z.answer) fs) one all') rest in
    λ i. sym one i ∷ tails i

module _ {S : Type 0} (graph : S → Graph) (kept : S → List Statement) (m : Meaning) where
  -- after what was said before a run, its answers are right, and at its end all that was said is held
  run_right : {s t : S} {es : List Exchange} → Run graph kept m s es t → (vars : ℕ) (said : List Statement) → Has graph kept m s vars said → AllRight m vars said es
  run_right done vars said has = tt
  run_right (call {e = e} step run) vars said has =
      (step.right vars said has, run_right run (vars_after vars e.answer) (said_after said e.call e.answer) (step.holds vars said has))

  run_holds : {s t : S} {es : List Exchange} → Run graph kept m s es t → (vars : ℕ) (said : List Statement) → Has graph kept m s vars said → Has graph kept m t (vars_of vars es) (said_of said es)
  run_holds done vars said has = has
  run_holds (call {e = e} step run) vars said has = run_holds run (vars_after vars e.answer) (said_after said e.call e.answer) (step.holds vars said has)

  run_bounded : {s t : S} {es : List Exchange} → Run graph kept m s es t → (vars : ℕ) (said : List Statement) → Has graph kept m s vars said → Bounded m vars said → Bounded m (vars_of vars es) (said_of said es)
  run_bounded done vars said has b = b
  run_bounded (call {e = e} step run) vars said has b =
      run_bounded run (vars_after vars e.answer) (said_after said e.call e.answer) (step.holds vars said has) (bounded_after m vars said b (step.right vars said has))

module _ {S : Type 0} (graph : S → Graph) (kept : S → List Statement) (m : Meaning) (lawful : Lawful m) (s : S) (has : Has graph kept m s 0 []) where
  at_end : (es : List Exchange) (t : S) → Run graph kept m s es t → Has graph kept m t (vars_of 0 es) (said_of [] es)
  at_end es t run = run_holds graph kept m run 0 [] has

  general : (es : List Exchange) (t : S) → Run graph kept m s es t → Model m (vars_of 0 es) (said_of [] es) (graph t) × ((h : Graph) → Model m (vars_of 0 es) (said_of [] es) h → OneMap m (graph t) h)
  general es t run = let end = at_end es t run in most_general m lawful (graph t) (kept t) (vars_of 0 es) (said_of [] es) end.holds end.no_clash

  one_listing_of_both : (s' : S) → Has graph kept m s' 0 [] → (es es' : List Exchange) (t t' : S) → Run graph kept m s es t → Run graph kept m s' es' t'
      → vars_of 0 es ≡ vars_of 0 es' → SameMembers (said_of [] es) (said_of [] es')
      → (before before' after after' : List ℕ) (n n' : ℕ) (u u' : S)
      → Step graph kept m t (asked (list before) (lists (Ok n) after)) u → Step graph kept m t' (asked (list before') (lists (Ok n') after')) u'
      → (n ≡ n') × (take n after ≡ take n' after')
  one_listing_of_both s' has' es es' t t' run run' vars members before before' after after' n n' u u' step step' =
      let a = put_there (step.right (vars_of 0 es) (said_of [] es) (at_end es t run)) in
      let b = put_there (step'.right (vars_of 0 es') (said_of [] es') (run_holds graph kept m run' 0 [] has')) in
      let l = subst (λ (z : ℕ). Listed m z (said_of [] es') (take n' after')) (sym vars) b.0 in
      let bytes = one_listing m lawful (vars_of 0 es) (said_of [] es) (said_of [] es') (take n after) (take n' after') a.0 l members in
      let sizes = ap length bytes in
      (omega (arith, a.1, b.1, sizes), bytes)

  pub promise : Promise graph kept m s
  promise = record {
    fresh = has;
    right = λ es t run. run_right graph kept m run 0 [] has;
    one_answer = answers_are_unique m lawful;
    same_answers = λ s' has' es es' t t' run run'. same_answers m lawful 0 [] es es' (run_right graph kept m run 0 [] has) (run_right graph kept m run' 0 [] has');
    clashes = λ es t run st before after r u step faultless.
        let closed = judged (step.right (vars_of 0 es) (said_of [] es) (at_end es t run)) faultless in
        (clash_has_no_model m lawful (vars_of 0 es) (said_of [] es ++ (st ∷ [])) closed, no_model_clashes m lawful (vars_of 0 es) (said_of [] es ++ (st ∷ [])) closed);
    satisfies = λ es t run. (general es t run).0;
    one_map = λ es t run. (general es t run).1;
    lists_said = λ es t run before after n u step. (put_there (step.right (vars_of 0 es) (said_of [] es) (at_end es t run))).0;
    one_listing = one_listing_of_both;
  }

  pub listed_can_be_read : (es : List Exchange) (t : S) → Run graph kept m s es t → (before after : List ℕ) (n : ℕ) (u : S)
      → Step graph kept m t (asked (list before) (lists (Ok n) after)) u
      → (g : Graph) × Written m (take n after) g × InOrder g × Holds m g (aparts_of (said_of [] es)) (vars_of 0 es) (said_of [] es)
  listed_can_be_read es t run before after n u step =
      let end = at_end es t run in
      let bounded = run_bounded graph kept m run 0 [] has (bounded_at_first m (graph s) (kept s) has.holds) in
      readable m lawful (vars_of 0 es) (said_of [] es) end.no_clash bounded (put_there (step.right (vars_of 0 es) (said_of [] es) end)).0
