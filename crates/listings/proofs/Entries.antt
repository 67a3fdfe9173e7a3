-- The entries of the attributes that are left, from the lowest up.
use Rattle.std.proofs.Common.{◌≡◌, ℕ, zero, suc, ◌+◌, ◌-◌, ◌<◌, ◌≤◌, Bool, true, false, cond, ◌&&◌, ltb, ◌⊎◌, List, [], ◌∷◌, ◌++◌, length, get_or, sym, refl, ap, ◌∙◌, ap₂, inl, inr, append_assoc, append-nil, arith, length-append}
use mathlib.Core.Option.{some, none}
use Rattle.std.proofs.lemmas.Bool.{and_right, and_from, lt-ltb, cases_order}
use Rattle.kinds.specs.Masks.{has}
use Rattle.kinds.specs.BitSets.{has_none}
use Rattle.features.specs.Listing.{little, entry, along}
use Rattle.features.proofs.Bytes.{along_at, along_same}
use Rattle.tables.specs.Attributes.{Lowest, WithoutLowest}
use Rattle.tables.specs.declared.node.Node.{Node}
use Rattle.tables.specs.Views.{edge_of}
use Rattle.listings.specs.Parts.{entries_of}
use Rattle.listings.proofs.Placing.{room_for_one}

pub along_none : (f : ℕ → List ℕ) (a k : ℕ) → ((b : ℕ) → a ≤ b → b < a + k → f b ≡ []) → along f a k ≡ []
along_none f a zero e = refl
along_none f a (suc k) e =
    ap₂ (λ (s t : List ℕ). s ++ t) (e a (omega arith) (omega arith)) (along_none f (suc a) k (λ b l m. e b (omega arith) (omega arith)))

-- the first part that is not empty, and the others
pub along_first : (f h : ℕ → List ℕ) (a k : ℕ) → a < k → ((b : ℕ) → b < a → f b ≡ []) → ((b : ℕ) → b ≤ a → h b ≡ []) → ((b : ℕ) → a < b → f b ≡ h b) → along f 0 k ≡ f a ++ along h 0 k
along_first f h a k l none_before none-now same =
    let j : ℕ = k - suc a in
    let e : k ≡ a + suc j = omega arith in
    let before = along_none f 0 a (λ b m n. none_before b (omega arith)) in
    let nothing = along_none h 0 a (λ b m n. none-now b (omega arith)) in
    let rest = along_same f h (suc a) j (λ b m n. same b (omega arith)) in
    ap (along f 0) e ∙ along_at f a j ∙ ap₂ (λ (s t : List ℕ). s ++ (f a ++ t)) before rest
    ∙ ap (λ (t : List ℕ). f a ++ t) (sym (ap (along h 0) e ∙ along_at h a j ∙ ap₂ (λ (s t : List ℕ). s ++ (t ++ along h (suc a) j)) nothing (none-now a (omega arith))))

-- the node with the attributes of a set alone
abbrev pub only : Node → ℕ → Node
only r mask = record { value = r.value; present = mask; targets = r.targets }

module _ (r : Node) (mask b : ℕ) where
  absent : has mask b ≡ false → entry b (edge_of (only r mask) b) ≡ []
  absent e = ap (λ (x : Bool). entry b (cond x (some (get_or r.targets b 0)) none)) (and_right (ltb b 32) (has mask b) e)

  present : b < 32 → has mask b ≡ true → entry b (edge_of (only r mask) b) ≡ b ∷ little 2 (get_or r.targets b 0)
  present l e = ap (λ (x : Bool). entry b (cond x (some (get_or r.targets b 0)) none)) (and_from (ltb b 32) (has mask b) (lt-ltb b 32 l) e)

entries_none : (r : Node) → entries_of (only r 0) ≡ []
unfolding entries_of
entries_none r = along_none (λ b. entry b (edge_of (only r 0) b)) 0 32 (λ b l m. absent r 0 b (has_none b))

-- none is left
pub entries_done : (r : Node) (mask : ℕ) (done : List ℕ) → mask ≡ 0 → done ++ entries_of (only r mask) ≡ entries_of r → done ≡ entries_of r
entries_done r mask done z e =
    sym (append-nil done) ∙ ap (λ (t : List ℕ). done ++ t) (sym (ap (λ (m : ℕ). entries_of (only r m)) z ∙ entries_none r)) ∙ e

three_left : (r : Node) (mask a : ℕ) → Lowest mask a → 3 ≤ length (entries_of (only r mask))
unfolding entries_of
three_left r mask a w = room_for_one (λ b. entry b (edge_of (only r mask) b)) a 32 3 w.below (ap length (present r mask a w.below w.present))

-- room for the lowest that is left
pub entry_fits : (r : Node) (mask a : ℕ) (done : List ℕ) → Lowest mask a → done ++ entries_of (only r mask) ≡ entries_of r → length done + 3 ≤ length (entries_of r)
entry_fits r mask a done w e = omega (arith, three_left r mask a w, length-append done (entries_of (only r mask)), ap length e)

entries_lowest : (r : Node) (mask rest a : ℕ) → Lowest mask a → WithoutLowest mask rest → entries_of (only r mask) ≡ (a ∷ little 2 (get_or r.targets a 0)) ++ entries_of (only r rest)
unfolding entries_of
entries_lowest r mask rest a w o =
    along_first (λ b. entry b (edge_of (only r mask) b)) (λ b. entry b (edge_of (only r rest) b)) a 32 w.below
    (λ b l. absent r mask b (w.none_lower b l))
    (λ b l. absent r rest b (gone b l (cases_order b a)))
    (λ b l. ap (λ (x : Bool). entry b (cond (ltb b 32 && x) (some (get_or r.targets b 0)) none)) (sym (o.others a b w (omega arith))))
    ∙ ap (λ (s : List ℕ). s ++ entries_of (only r rest)) (present r mask a w.below w.present)
  where
    gone : (b : ℕ) → b ≤ a → (b ≡ a) ⊎ ((b < a) ⊎ (a < b)) → has rest b ≡ false
    gone b l (inl e) = ap (has rest) e ∙ o.gone a w
    gone b l (inr (inl m)) = o.others a b w (omega arith) ∙ w.none_lower b m
    gone b l (inr (inr m)) = absurd (omega arith)

-- the lowest is put
pub entries_more : (r : Node) (mask rest a : ℕ) (done : List ℕ) → Lowest mask a → WithoutLowest mask rest → done ++ entries_of (only r mask) ≡ entries_of r → done ++ (a ∷ little 2 (get_or r.targets a 0)) ++ entries_of (only r rest) ≡ entries_of r
entries_more r mask rest a done w o e =
    append_assoc done (a ∷ little 2 (get_or r.targets a 0)) (entries_of (only r rest)) ∙ ap (λ (t : List ℕ). done ++ t) (sym (entries_lowest r mask rest a w o)) ∙ e
