-- Links up to the types that stand above, one after another.
use Rattle.std.proofs.Common.{◌≡◌, ℕ, ◌+◌, ◌<◌, List, [], ◌∷◌, ◌++◌, length, sym, refl, subst, inl, inr, arith}
use mathlib.Core.List.Memᴰ
use Rattle.std.proofs.lemmas.List.{get_or_append_left, get_or_push, length_push}
use Rattle.std.proofs.lemmas.Bool.{cases_lt}
use Rattle.kinds.specs.declared.types.links.Link.{Link}
use Rattle.kinds.specs.Types.{Linked, Upward, AllUpward, AllLinked}
use Rattle.hierarchy_text.specs.Sheets.{Written}

pub upward_push : {n : ℕ} (links : List Link) (x : Link) → AllUpward n links → Upward n x → AllUpward n (links ++ x ∷ [])
upward_push {n} links x up here i l =
    elim (cases_lt i (length links)) [
      | inl k ↦ subst (λ (y : Link). Upward n y) (sym (get_or_append_left links (x ∷ []) (record { subtype = 0; supertype = 0 }) i k)) (up i k)
      | inr k ↦ let long = length_push links x in
          let e : length links ≡ i = omega arith in
          subst (λ (y : Link). Upward n y) (sym (get_or_push links x (record { subtype = 0; supertype = 0 }) i e)) here
    ]

pub linked_push : {a b : ℕ} {links : List Link} (x : Link) → Linked links a b → Linked (links ++ x ∷ []) a b
linked_push x m = Memᴰ.append_left (x ∷ []) m

pub linked_here : (links : List Link) (a b : ℕ) → Linked (links ++ (record { subtype = a; supertype = b }) ∷ []) a b
linked_here links a b = Memᴰ.append_right links (Memᴰ.head refl)

-- the links of the types below t, and k of those of t
abbrev pub Growing : ℕ → ℕ → List Link → Type 0
Growing t k links = AllUpward (t + 1) links × AllLinked t links × (0 < k → (s : ℕ) × Linked links t s)

pub growing_more : (t k s : ℕ) (links : List Link) → Growing t k links → s < t
    → Growing t (k + 1) (links ++ (record { subtype = t; supertype = s }) ∷ [])
growing_more t k s links g h = (
  upward_push links (record { subtype = t; supertype = s }) g.0 (omega arith, omega arith, h),
  λ u p q. let m = g.1 u p q in (m.0, linked_push (record { subtype = t; supertype = s }) m.1),
  λ p. (s, linked_here links t s),
)

-- all links of t are there, and there is one unless t is the first
pub growing_done : (t k : ℕ) (links : List Link) → Growing t k links → (0 < t → 0 < k) → Written (t + 1) links
growing_done t k links g some = (g.0, all)
  where
    all : AllLinked (t + 1) links
    all u p q =
        elim (cases_lt u t) [
          | inl l ↦ g.1 u p l
          | inr l ↦ let e : t ≡ u = omega arith in subst (λ (x : ℕ). (s : ℕ) × Linked links x s) e (g.2 (some (omega arith)))
        ]
