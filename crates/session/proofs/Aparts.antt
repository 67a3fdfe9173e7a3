-- An apart refused, or kept beside the graph, which it does not change.
use Rattle.std.proofs.Common.{◌≡◌, ℕ, ◌<◌, ◌≤◌, ◌⊎◌, List, [], ◌∷◌, ◌++◌, length, Ok, Err, sym, refl, subst, inl, inr, arith}
use mathlib.Core.Option.{Option, some, none}
use Rattle.kinds.specs.Meaning.{Meaning, Lawful}
use Rattle.features.specs.Terms.{Term, Statement, apart}
use Rattle.features.specs.Graphs.{Graph}
use Rattle.features.specs.Closing.{Joined}
use Rattle.features.specs.Holding.{Sound, Holds, aparts_of}
use Rattle.features.specs.Clashes.{LeafBranches, Nowhere, Broken, here, past}
use Rattle.features.specs.Theorems.{NoClash}
use Rattle.features.proofs.General.{held_valued, no_leaf_branches}
use Rattle.growth.specs.Joins.{OneNode}
use Rattle.growth.specs.Theorems.{AllFollow}
use Rattle.growth.proofs.Redundant.{said_follows, both_follow, front_follows, came_widens, following_added}
use Rattle.growth.proofs.Holding.{holding_stands, accepted_holds}
use Rattle.growth.proofs.Naming.{names_broken}
use Rattle.answers.specs.declared.refusal.Refusal.{Refusal}
use Rattle.answers.specs.declared.refusal.Refusal.TheVariants.{ShortTrail, ApartsFull, ApartClash}
use Rattle.answers.specs.Answers.{pair_fault, fault, Closed, not_apart, accepted, Stated, faultless, stated, state, states}
use Rattle.answers.specs.Runs.{asked, Has, Step}
use Rattle.answers.proofs.Keeping.{step_taken}
use Rattle.session.proofs.Faults.{faultless_pair, apart_terms, apart_short_trail, aparts_full, apart_faultless}

-- one apart more at the end: broken there, or broken before
module _ {m : Meaning} {vars : ℕ} {said : List Statement} {p q : Term} where
  broken_last : (kept : List Statement) → Joined vars said p q → Broken m vars said (kept ++ (apart p q ∷ [])) (length kept)
  broken_last [] j = here j
  broken_last (s ∷ rest) j = past (broken_last rest j)

  broken_before : (kept : List Statement) {i : ℕ} → Broken m vars said (kept ++ (apart p q ∷ [])) i → Broken m vars said kept i ⊎ ((i ≡ length kept) × Joined vars said p q)
  broken_before [] (here j) = inr (refl, j)
  broken_before [] (past b) = elim b [ ]
  broken_before (apart r s ∷ rest) (here j) = inl (here j)
  broken_before (r ∷ rest) (past b) = elim (broken_before rest b) [ inl before ↦ inl (past before) | inr last ↦ inr (omega (arith, last.0), last.1) ]

module _ (m : Meaning) (g : Graph) (kept : List Statement) (vars : ℕ) (said : List Statement) (holds : Holds m g kept vars said) (free : NoClash m vars said) (p q : Term) (good : Sound vars p × Sound vars q) where
  abbrev more : List Statement
  more = said ++ (apart p q ∷ [])

  abbrev state_of : ℕ → Option ℕ
  state_of n = some (g.value n)

  -- the graph holds it with the others
  apart_held : Holds m g (kept ++ (apart p q ∷ [])) vars more
  apart_held =
      accepted_holds m g g state_of kept (kept ++ (apart p q ∷ [])) vars said (apart p q) holds good
      (following_added m vars g state_of said (apart p q) tt (holding_stands m g kept vars said holds)) (λ n l. refl) refl

  leaves_bare : Nowhere m vars more (LeafBranches m vars more)
  leaves_bare t first (v, a, valued, leaf, j) =
      let less : AllFollow m vars said more = both_follow m vars said (apart p q) (said_follows m vars) tt in
      let d = apart_held.joined _ _ j in
      no_leaf_branches m g kept vars said holds free.leaves_bare t
      (v, a, (λ w came. valued.0 w (came_widens (omega arith) (front_follows m vars said (apart p q)) came), λ u under. valued.1 u (λ w came. under w (came_widens (omega arith) less came))), leaf, holds.nothing_else _ _ d.0 d.1 d.2)

  -- none of those kept before is broken
  before_whole : (i : ℕ) → Broken m vars more kept i → ⊥
  before_whole i b =
      let on_one = ((names_broken m g vars more (holding_stands m g _ vars more apart_held).shape).1 kept i).0 b in
      let broken = ((names_broken m g vars said (holding_stands m g kept vars said holds).shape).1 kept i).1 on_one in
      free.aparts_kept i (subst (λ (k : List Statement). Broken m vars said k i) holds.aparts broken)

  place : (i : ℕ) → Broken m vars more (aparts_of more) i → (i ≡ length kept) × OneNode g p q
  place i b = pick (broken_before kept (subst (λ (k : List Statement). Broken m vars more k i) (sym apart_held.aparts) b))
    where
      pick : Broken m vars more kept i ⊎ ((i ≡ length kept) × Joined vars more p q) → (i ≡ length kept) × OneNode g p q
      pick (inl before) = absurd (before_whole i before)
      pick (inr last) = (last.0, apart_held.joined p q last.1)

  -- on one node the new apart clashes, and none before it
  pub apart_clashes : (before : List ℕ) → OneNode g p q → Closed m vars more before (Err (ApartClash (length kept))) before
  apart_clashes before (n, d, e) =
      let here_broken = broken_last {m = m} kept (apart_held.nothing_else p q n d e) in
      not_apart (length kept) (held_valued m g _ vars more apart_held) leaves_bare
      (subst (λ (k : List Statement). Broken m vars more k (length kept)) apart_held.aparts here_broken)
      (λ j l b. let last = (place j b).0 in omega arith)

  pub apart_accepted : (before : List ℕ) → (OneNode g p q → ⊥) → g.nodes ≤ 256 → Closed m vars more before (Ok tt) before
  apart_accepted before never few =
      accepted (record { valued = held_valued m g _ vars more apart_held; leaves_bare = leaves_bare; aparts_kept = λ i b. never (place i b).1 })
      (g, subst (λ (k : List Statement). Holds m g k vars more) apart_held.aparts apart_held, few)

module _ {S : Type 0} (graph : S → Graph) (kept : S → List Statement) (m : Meaning) (lawful : Lawful m) (s : S) where
  -- a statement refused leaves all as it was
  pub statement_refused : (st : Statement) (before after : List ℕ) (r : Refusal)
      → ((vars : ℕ) (said : List Statement) → Has graph kept m s vars said → Stated m vars said st before (Err r) after)
      → Step graph kept m s (asked (state st before) (states (Err r) after)) s
  statement_refused st before after r right =
      step_taken graph kept m lawful s s (state st before) (states (Err r) after) (λ vars said has. stated (right vars said has)) (λ vars said has. has.holds) (λ _. (refl, refl))

  module _ (p q : Term) (trail : List ℕ) where
    pub apart_refused : (r : Refusal) → pair_fault (graph s).vars p q ≡ some r → Step graph kept m s (asked (state (apart p q) trail) (states (Err r) trail)) s
    apart_refused r e =
        statement_refused (apart p q) trail trail r
        (λ vars said has. Stated.faulty (apart_terms m vars said p q (length trail) (some r) (subst (λ (n : ℕ). pair_fault n p q ≡ some r) has.holds.all e)))

    module _ (terms : pair_fault (graph s).vars p q ≡ none) where
      as_declared : (vars : ℕ) (said : List Statement) → Has graph kept m s vars said → pair_fault vars p q ≡ none
      as_declared vars said has = subst (λ (n : ℕ). pair_fault n p q ≡ none) has.holds.all terms

      pub trail_refused : length trail < 272 → Step graph kept m s (asked (state (apart p q) trail) (states (Err ShortTrail) trail)) s
      trail_refused l =
          statement_refused (apart p q) trail trail ShortTrail
          (λ vars said has. Stated.faulty (apart_short_trail m vars said p q (length trail) (as_declared vars said has) l))

      module _ (long : 272 ≤ length trail) where
        pub one_too_many : 128 ≤ length (kept s) → Step graph kept m s (asked (state (apart p q) trail) (states (Err ApartsFull) trail)) s
        one_too_many full =
            statement_refused (apart p q) trail trail ApartsFull
            (λ vars said has.
            Stated.faulty (aparts_full m vars said p q (length trail) (as_declared vars said has) long
            (subst (λ (k : List Statement). 128 ≤ length k) has.holds.aparts full)))

        module _ (left : length (kept s) < 128) where
          no_fault : (vars : ℕ) (said : List Statement) → Has graph kept m s vars said → fault m vars said (apart p q) (length trail) ≡ none
          no_fault vars said has =
              apart_faultless m vars said p q (length trail) (as_declared vars said has) long
              (subst (λ (k : List Statement). length k < 128) has.holds.aparts left)

          pub on_one_refused : OneNode (graph s) p q → Step graph kept m s (asked (state (apart p q) trail) (states (Err (ApartClash (length (kept s)))) trail)) s
          on_one_refused one =
              statement_refused (apart p q) trail trail (ApartClash (length (kept s)))
              (λ vars said has.
              faultless (no_fault vars said has)
              (apart_clashes m (graph s) (kept s) vars said has.holds has.no_clash p q (faultless_pair vars p q (as_declared vars said has)) trail one))

          pub apart_taken : (t : S) → (OneNode (graph s) p q → ⊥) → (graph s).nodes ≤ 256 → graph t ≡ graph s → kept t ≡ kept s ++ (apart p q ∷ [])
              → Step graph kept m s (asked (state (apart p q) trail) (states (Ok tt) trail)) t
          apart_taken t never few same more-kept =
              step_taken graph kept m lawful s t (state (apart p q) trail) (states (Ok tt) trail)
              (λ vars said has.
              stated (faultless (no_fault vars said has)
              (apart_accepted m (graph s) (kept s) vars said has.holds has.no_clash p q (faultless_pair vars p q (as_declared vars said has)) trail never few)))
              (λ vars said has.
              let held = apart_held m (graph s) (kept s) vars said has.holds has.no_clash p q (faultless_pair vars p q (as_declared vars said has)) in
              subst (λ (h : Graph). Holds m h (kept t) vars (said ++ (apart p q ∷ []))) (sym same)
              (subst (λ (k : List Statement). Holds m (graph s) k vars (said ++ (apart p q ∷ []))) (sym more-kept) held))
              (λ idle. absurd idle)
