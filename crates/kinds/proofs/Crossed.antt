-- Types 1 and 2 right below 0, and 3 and 4 right below both: 1 and 2 have no greatest common type.
use Rattle.std.proofs.Common.{◌≡◌, ℕ, zero, suc, ◌<◌, ◌≤◌, List, [], ◌∷◌, length, refl, subst, arith}
use mathlib.Core.List.Memᴰ
use Rattle.kinds.specs.declared.types.links.Link.{Link}
use Rattle.kinds.specs.declared.types.misfit.Misfit.TheVariants.{NoGreatest}
use Rattle.kinds.specs.Types.{Linked, Up, AllUpward, AllLinked, link_at, Shared, Clash, Refused}
use Rattle.kinds.specs.Types.Up.{stay, climb}
use Rattle.kinds.specs.Types.Refused.{clashing}
use Rattle.kinds.proofs.Climbing.{up_le, up_zero}
use Rattle.kinds.proofs.Filling.{none_not_upward, none_orphan}
use Rattle.kinds.proofs.Places.{place_of}

abbrev pub crossed : List Link
crossed =
    record { subtype = 1; supertype = 0 }
    ∷ record { subtype = 2; supertype = 0 }
    ∷ record { subtype = 3; supertype = 1 }
    ∷ record { subtype = 3; supertype = 2 }
    ∷ record { subtype = 4; supertype = 1 }
    ∷ record { subtype = 4; supertype = 2 }
    ∷ []

up : AllUpward 5 crossed
up zero h = (omega arith, omega arith, omega arith)
up (suc zero) h = (omega arith, omega arith, omega arith)
up (suc (suc zero)) h = (omega arith, omega arith, omega arith)
up (suc (suc (suc zero))) h = (omega arith, omega arith, omega arith)
up (suc (suc (suc (suc zero)))) h = (omega arith, omega arith, omega arith)
up (suc (suc (suc (suc (suc zero))))) h = (omega arith, omega arith, omega arith)
up (suc (suc (suc (suc (suc (suc i)))))) h = absurd (omega arith)

linked : AllLinked 5 crossed
linked zero h l = absurd (omega arith)
linked (suc zero) h l = (0, Memᴰ.head refl)
linked (suc (suc zero)) h l = (0, Memᴰ.tail (Memᴰ.head refl))
linked (suc (suc (suc zero))) h l = (1, Memᴰ.tail (Memᴰ.tail (Memᴰ.head refl)))
linked (suc (suc (suc (suc zero)))) h l =
    (1, Memᴰ.tail (Memᴰ.tail (Memᴰ.tail (Memᴰ.tail (Memᴰ.head refl)))))
linked (suc (suc (suc (suc (suc t))))) h l = absurd (omega arith)

-- no link leads to a type above 2, and from 2 one leads to 0 only
abbrev Ends : Link → Type 0
Ends l = (l.supertype ≤ 2) × (l.subtype ≡ 2 → l.supertype ≡ 0)

ends_at : (i : ℕ) → i < length crossed → Ends (link_at crossed i)
ends_at zero h = (omega arith, λ e. omega arith)
ends_at (suc zero) h = (omega arith, λ e. omega arith)
ends_at (suc (suc zero)) h = (omega arith, λ e. omega arith)
ends_at (suc (suc (suc zero))) h = (omega arith, λ e. omega arith)
ends_at (suc (suc (suc (suc zero)))) h = (omega arith, λ e. omega arith)
ends_at (suc (suc (suc (suc (suc zero))))) h = (omega arith, λ e. omega arith)
ends_at (suc (suc (suc (suc (suc (suc i)))))) h = absurd (omega arith)

ends : {a b : ℕ} → Linked crossed a b → (b ≤ 2) × (a ≡ 2 → b ≡ 0)
ends m = let p = place_of (record { subtype = 0; supertype = 0 }) m in subst Ends p.2 (ends_at p.0 p.1)

not_4_3 : {a b : ℕ} → a ≡ 4 → b ≡ 3 → Up crossed a b → ⊥
not_4_3 p q stay = omega arith
not_4_3 p q (climb m u) = let l = (ends m).0 in let k = up_le up u in omega arith

not_2_1 : {a b : ℕ} → a ≡ 2 → b ≡ 1 → Up crossed a b → ⊥
not_2_1 p q stay = omega arith
not_2_1 p q (climb m u) = let l = (ends m).1 p in let k = up_le up u in omega arith

under_three : Shared crossed 1 2 3
under_three = (
  climb (Memᴰ.tail (Memᴰ.tail (Memᴰ.head refl))) stay,
  climb (Memᴰ.tail (Memᴰ.tail (Memᴰ.tail (Memᴰ.head refl)))) stay,
)

under_four : Shared crossed 1 2 4
under_four = (
  climb (Memᴰ.tail (Memᴰ.tail (Memᴰ.tail (Memᴰ.tail (Memᴰ.head refl))))) stay,
  climb (Memᴰ.tail (Memᴰ.tail (Memᴰ.tail (Memᴰ.tail (Memᴰ.tail (Memᴰ.head refl)))))) stay,
)

no_greatest : (d : ℕ) → Shared crossed 1 2 d → ((e : ℕ) → Shared crossed 1 2 e → Up crossed e d) → ⊥
no_greatest zero s g = let k = up_le up s.0 in omega arith
no_greatest (suc zero) s g = let k = up_le up s.1 in omega arith
no_greatest (suc (suc zero)) s g = not_2_1 refl refl s.0
no_greatest (suc (suc (suc zero))) s g = not_4_3 refl refl (g 4 under_four)
no_greatest (suc (suc (suc (suc d)))) s g = let k = up_le up (g 3 under_three) in omega arith

clash_after_zero : (x y : ℕ) → Clash 5 crossed x y → 1 ≤ x
clash_after_zero zero y c =
    absurd (c.3 y (up_zero up linked y y (omega arith) c.1, stay) (λ e s. s.1))
clash_after_zero (suc x) y c = omega arith

pub crossed_refused : (marks : ℕ) → Refused 5 crossed marks (NoGreatest 1 2)
crossed_refused marks =
    clashing (omega arith, omega arith) (none_not_upward 5 crossed up) (none_orphan 5 crossed linked) (
      (omega arith, omega arith, (3, under_three), no_greatest),
      λ x y c. (clash_after_zero x y c, λ e. let l = c.0 in omega arith),
    )
