-- There is one right answer to filling a hierarchy, and one meaning that it describes.
use Rattle.std.proofs.Common.{◌≡◌, ℕ, Bool, true, false, ◌↔◌, List, Ok, Err, Result, sym, refl, ap, ◌∙◌, le_antisymm}
use Rattle.kinds.specs.declared.types.Types.{Types}
use Rattle.kinds.specs.declared.types.links.Link.{Link}
use Rattle.kinds.specs.declared.types.misfit.Misfit.{Misfit}
use Rattle.kinds.specs.declared.types.misfit.Misfit.TheVariants.{WrongLink, Unlinked, NoGreatest, WrongMark}
use Rattle.kinds.specs.Meaning.{Meaning}
use Rattle.kinds.specs.Types.{Least, LeastPair, Clash, Refused, Accepted, Described, Filled, Settled, meaning_of}
use Rattle.kinds.specs.Types.Refused.{no_count, no_link, orphaned, clashing, mismarked}

least_once : (P : ℕ → Type 0) (a b : ℕ) → Least P a → Least P b → a ≡ b
least_once P a b p q = le_antisymm (p.1 b q.0) (q.1 a p.0)

least_pair_once : (P : ℕ → ℕ → Type 0) (a b x y : ℕ) → LeastPair P a b → LeastPair P x y → (a ≡ x) × (b ≡ y)
least_pair_once P a b x y p q =
    let first : a ≡ x = le_antisymm (p.1 x y q.0).0 (q.1 a b p.0).0 in
    (first, le_antisymm ((p.1 x y q.0).1 (sym first)) ((q.1 a b p.0).1 first))

module _ {n : ℕ} {links : List Link} {marks : ℕ} where
  pub refused_once : {e f : Misfit} → Refused n links marks e → Refused n links marks f → e ≡ f
  refused_once (no_count h) (no_count k) = refl
  refused_once (no_count h) (no_link k _) = absurd (h k)
  refused_once (no_count h) (orphaned k _ _) = absurd (h k)
  refused_once (no_count h) (clashing k _ _ _) = absurd (h k)
  refused_once (no_count h) (mismarked k _ _ _ _) = absurd (h k)
  refused_once (no_link h _) (no_count k) = absurd (k h)
  refused_once (no_link {i} _ l) (no_link {i = j} _ m) = ap WrongLink (least_once _ i j l m)
  refused_once (no_link {i} _ l) (orphaned _ u _) = absurd (u i l.0)
  refused_once (no_link {i} _ l) (clashing _ u _ _) = absurd (u i l.0)
  refused_once (no_link {i} _ l) (mismarked _ u _ _ _) = absurd (u i l.0)
  refused_once (orphaned h _ _) (no_count k) = absurd (k h)
  refused_once (orphaned _ u _) (no_link {i} _ l) = absurd (u i l.0)
  refused_once (orphaned {t} _ _ l) (orphaned {t = s} _ _ m) = ap Unlinked (least_once _ t s l m)
  refused_once (orphaned {t} _ _ l) (clashing _ _ u _) = absurd (u t l.0)
  refused_once (orphaned {t} _ _ l) (mismarked _ _ u _ _) = absurd (u t l.0)
  refused_once (clashing h _ _ _) (no_count k) = absurd (k h)
  refused_once (clashing _ u _ _) (no_link {i} _ l) = absurd (u i l.0)
  refused_once (clashing _ _ u _) (orphaned {t} _ _ l) = absurd (u t l.0)
  refused_once (clashing {a} {b} _ _ _ l) (clashing {a = x} {b = y} _ _ _ m) =
      let p = least_pair_once (Clash n links) a b x y l m in λ i. NoGreatest (p.0 i) (p.1 i)
  refused_once (clashing {a} {b} _ _ _ l) (mismarked _ _ _ u _) = absurd (u a b l.0)
  refused_once (mismarked h _ _ _ _) (no_count k) = absurd (k h)
  refused_once (mismarked _ u _ _ _) (no_link {i} _ l) = absurd (u i l.0)
  refused_once (mismarked _ _ u _ _) (orphaned {t} _ _ l) = absurd (u t l.0)
  refused_once (mismarked _ _ _ u _) (clashing {a} {b} _ _ _ l) = absurd (u a b l.0)
  refused_once (mismarked {t} _ _ _ _ l) (mismarked {t = s} _ _ _ _ m) = ap WrongMark (least_once _ t s l m)

  pub accepted_not_refused : {e : Misfit} → Accepted n links marks → Refused n links marks e → ⊥
  accepted_not_refused a (no_count h) = h a.counted
  accepted_not_refused a (no_link {i} _ l) = a.upward i l.0
  accepted_not_refused a (orphaned {t} _ _ l) = a.linked t l.0
  accepted_not_refused a (clashing {a = x} {b = y} _ _ _ l) = a.meeting x y l.0
  accepted_not_refused a (mismarked {t} _ _ _ _ l) = a.marked t l.0

same_test : (b c : Bool) (P : Type 0) → (b ≡ true) ↔ P → (c ≡ true) ↔ P → b ≡ c
same_test true c P p q = sym (q.1 (p.0 refl))
same_test false true P p q = p.1 (q.0 refl)
same_test false false P p q = refl

pub described_once : {n : ℕ} {links : List Link} {marks : ℕ} (l m : Meaning) → Described n links marks l → Described n links marks m → l ≡ m
described_once l m p q = λ i.
    record {
      value = λ v. same_test (l.value v) (m.value v) _ (p.value v) (q.value v) i;
      top = (p.top ∙ sym q.top) i;
      below = λ v w. same_test (l.below v w) (m.below v w) _ (p.below v w) (q.below v w) i;
      leaf = λ v. same_test (l.leaf v) (m.leaf v) _ (p.leaf v) (q.leaf v) i;
    }

pub filled_settled : (n : ℕ) (links : List Link) (marks : ℕ) (before : Types) (r : Result (Unit {0}) Misfit) (after : Types)
    → Filled n links marks before r after → Settled n links marks r after
filled_settled n links marks before (Ok u) after f =
    record {
      refused = λ e x. absurd (accepted_not_refused f.0 x);
      accepted = λ a. refl;
      described = λ m a d. described_once (meaning_of after) m f.1 d;
    }
filled_settled n links marks before (Err e) after f =
    record {
      refused = λ d x. ap Err (refused_once f.0 x);
      accepted = λ a. absurd (accepted_not_refused a f.0);
      described = λ m a d. absurd (accepted_not_refused a f.0);
    }
