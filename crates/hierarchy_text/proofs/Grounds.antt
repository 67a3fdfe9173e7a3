-- The grounds that are left to refuse a hierarchy that is written well.
use Rattle.std.proofs.Common.{◌≡◌, ℕ, ◌<◌, true, List, subst}
use mathlib.Core.HLevel.{⊥_prop}
use mathlib.Core.Logic.{∥∥₁_elim}
use native.Mathlib.Bridge.{le_prop}
use Rattle.kinds.specs.declared.types.links.Link.{Link}
use Rattle.kinds.specs.declared.types.misfit.Misfit.{Misfit}
use Rattle.kinds.specs.declared.types.misfit.Misfit.TheVariants.{Unlinked, WrongMark}
use Rattle.kinds.specs.Masks.{has}
use Rattle.kinds.specs.Types.{AllUpward, AllLinked, Refused, Fault}
use Rattle.kinds.specs.Types.Refused.{orphaned, mismarked}
use Rattle.kinds.specs.Types.Fault.{on_top, on_none, missing}
use Rattle.kinds.proofs.Climbing.{up_type}
use Rattle.hierarchy_text.specs.declared.entry.Entry.{Entry}
use Rattle.hierarchy_text.specs.Sheets.{Marked}

pub never_orphaned : {n marks t : ℕ} {links : List Link} → ∥ AllLinked n links ∥₁ → Refused n links marks (Unlinked t) → ⊥
never_orphaned {t = t} linked (orphaned k u p) = ∥∥₁_elim linked ⊥_prop (λ l. let m = l t p.0.0 p.0.1 in p.0.2 m.0 m.1)

at_fault : {n marks t : ℕ} {links : List Link} → AllUpward n links → ((x : ℕ) → has marks x ≡ true → x < n) → Fault n links marks t → t < n
at_fault up within (on_top m) = within 0 m
at_fault {t = t} up within (on_none l m) = within t m
at_fault up within (missing l m u e) = up_type up u l

pub mark_named : (n marks t : ℕ) (links : List Link) (es : List Entry) → AllUpward n links → ∥ Marked es n marks ∥₁
    → Refused n links marks (WrongMark t) → t < n
mark_named n marks t links es up m (mismarked k u o c p) = ∥∥₁_elim m le_prop (λ w. at_fault up w.0 p.0)

-- the same ground of the same count and links
pub refused_same : {n m marks : ℕ} {links ls : List Link} {e f : Misfit} → n ≡ m → links ≡ ls → e ≡ f
    → Refused n links marks e → Refused m ls marks f
refused_same {n} {m} {marks} {links} {ls} {e} {f} p q s r =
    subst (λ (x : ℕ). Refused x ls marks f) p (subst (λ (x : List Link). Refused n x marks f) q (subst (λ (x : Misfit). Refused n links marks x) s r))
