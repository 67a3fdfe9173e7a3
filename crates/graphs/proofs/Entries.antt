-- Attributes put one after another, from the lowest up.
use Rattle.std.proofs.Common.{◌≡◌, ℕ, zero, suc, ◌+◌, ◌-◌, ◌*◌, ◌<◌, ◌≤◌, List, [], ◌∷◌, ◌++◌, length, get_or, take, drop, sym, refl, ap, ◌∙◌, subst, append_assoc, append-nil, zero-add, add-one, arith, drop-cons, drop-drop, take-add}
use mathlib.Core.Option.{Option, some, none}
use Rattle.features.specs.Listing.{little, entry, along, one_if, count}
use Rattle.features.proofs.Bytes.{along_at, along_same, count_append, count_same}
use Rattle.features.proofs.Paths.{none_without}
use Rattle.features.proofs.TotalOrder.{Three, first, second, third, compare}
use Rattle.tables.specs.declared.node.Node.{Node}
use Rattle.tables.specs.Views.{edge_of}
use Rattle.graphs.specs.Listings.{value_at, count_at, attribute_at, target_at}
use Rattle.graphs.specs.Reading.{Rising}
use Rattle.graphs.specs.Rows.{RowAt}

along_none : (e : ℕ → Option ℕ) (a k : ℕ) → ((b : ℕ) → a ≤ b → e b ≡ none) → along (λ b. entry b (e b)) a k ≡ []
along_none e a zero h = refl
along_none e a (suc k) h = ap (λ (o : Option ℕ). entry a o ++ along (λ b. entry b (e b)) (suc a) k) (h a (omega arith)) ∙ along_none e (suc a) k (λ b l. h b (omega arith))

count_none : (e : ℕ → Option ℕ) (a k : ℕ) → ((b : ℕ) → a ≤ b → e b ≡ none) → count (λ b. one_if (e b)) a k ≡ 0
count_none e a zero h = refl
count_none e a (suc k) h = ap (λ (o : Option ℕ). one_if o + count (λ b. one_if (e b)) (suc a) k) (h a (omega arith)) ∙ omega (arith, count_none e (suc a) k (λ b l. h b (omega arith)))

-- an attribute above all others comes last
module _ (e f : ℕ → Option ℕ) (a t k : ℕ) (above : (b : ℕ) → a ≤ b → e b ≡ none) (here : f a ≡ some t) (others : (b : ℕ) → (b ≡ a → ⊥) → f b ≡ e b) where
  pub entries_put : along (λ b. entry b (f b)) 0 (a + suc k) ≡ along (λ b. entry b (e b)) 0 (a + suc k) ++ (a ∷ little 2 t)
  entries_put =
      let front = along_same (λ b. entry b (f b)) (λ b. entry b (e b)) 0 a (λ b l m. ap (entry b) (others b (omega arith))) in
      let back = along_none f (suc a) k (λ b l. others b (omega arith) ∙ above b (omega arith)) in
      let old = along_none e (suc a) k (λ b l. above b (omega arith)) in
      let was = along_at (λ b. entry b (e b)) a k ∙ (λ i. along (λ b. entry b (e b)) 0 a ++ (entry a (above a (omega arith) i) ++ old i)) ∙ append-nil (along (λ b. entry b (e b)) 0 a) in
      along_at (λ b. entry b (f b)) a k
      ∙ (λ i. front i ++ (entry a (here i) ++ back i))
      ∙ ap (λ (z : List ℕ). along (λ b. entry b (e b)) 0 a ++ z) (append-nil (a ∷ little 2 t))
      ∙ ap (λ (z : List ℕ). z ++ (a ∷ little 2 t)) (sym was)

  pub count_put : count (λ b. one_if (f b)) 0 (a + suc k) ≡ count (λ b. one_if (e b)) 0 (a + suc k) + 1
  count_put =
      let front = count_same (λ b. one_if (f b)) (λ b. one_if (e b)) 0 a (λ b l m. ap one_if (others b (omega arith))) in
      let back = count_none f (suc a) k (λ b l. others b (omega arith) ∙ above b (omega arith)) in
      let old = count_none e a (suc k) above in
      let new : count (λ b. one_if (f b)) a (suc k) ≡ 1 = (λ i. one_if (here i) + back i) in
      let split_f = count_append (λ b. one_if (f b)) 0 a (suc k) in
      let split_e = count_append (λ b. one_if (e b)) 0 a (suc k) in
      let shift_f = ap (λ (z : ℕ). count (λ b. one_if (f b)) z (suc k)) (zero-add a) in
      let shift_e = ap (λ (z : ℕ). count (λ b. one_if (e b)) z (suc k)) (zero-add a) in
      omega (arith, front, old, new, split_f, split_e, shift_f, shift_e)

-- the row has the first i attributes of the record
pub record RowUpTo (bs : List ℕ) (place i : ℕ) (r : Node) : Type 0 where
  pub value : r.value ≡ value_at bs place
  pub worth : little 8 r.value ≡ take 8 (drop place bs)
  pub entries : along (λ a. entry a (edge_of r a)) 0 32 ≡ take (3 * i) (drop (place + 9) bs)
  pub many : count (λ a. one_if (edge_of r a)) 0 32 ≡ i
  pub edges : (a t : ℕ) → edge_of r a ≡ some t → (j : ℕ) × (j < i) × (attribute_at bs place j ≡ a) × (target_at bs place j ≡ t)

pub row_bare : (bs : List ℕ) (place : ℕ) (r : Node) → r.value ≡ value_at bs place → little 8 r.value ≡ take 8 (drop place bs) → ((a : ℕ) → edge_of r a ≡ none) → RowUpTo bs place 0 r
row_bare bs place r v w bare = record {
  value = v;
  worth = w;
  entries = along_none (edge_of r) 0 32 (λ b l. bare b);
  many = count_none (edge_of r) 0 32 (λ b l. bare b);
  edges = λ a t e. let z : none ≡ some t = sym (bare a) ∙ e in let y : ◌≡◌ {A = ℕ} 0 1 = cc in absurd (omega arith);
}

module _ (bs : List ℕ) (place i : ℕ) (fits : place + 9 + 3 * count_at bs place ≤ length bs) (rising : Rising bs place) (within : i < count_at bs place) where
  -- three bytes more
  entry_more : (t : ℕ) → little 2 t ≡ take 2 (drop (place + 9 + 3 * i + 1) bs) → take (3 * (i + 1)) (drop (place + 9) bs) ≡ take (3 * i) (drop (place + 9) bs) ++ (attribute_at bs place i ∷ little 2 t)
  entry_more t e =
      let at = place + 9 + 3 * i in
      let longer : 3 * (i + 1) ≡ 3 * i + 3 = omega arith in
      let first : drop at bs ≡ get_or bs at 0 ∷ drop (suc at) bs = drop-cons bs at 0 (omega arith) in
      let three : take 3 (drop at bs) ≡ get_or bs at 0 ∷ take 2 (drop (at + 1) bs) = ap (take 3) first ∙ ap (λ (z : ℕ). get_or bs at 0 ∷ take 2 (drop z bs)) (sym (add-one at)) in
      ap (λ (z : ℕ). take z (drop (place + 9) bs)) longer ∙ take-add (3 * i) 3 (drop (place + 9) bs)
      ∙ ap (λ (z : List ℕ). take (3 * i) (drop (place + 9) bs) ++ z) (ap (take 3) (drop-drop (3 * i) (place + 9) bs) ∙ three ∙ ap (λ (z : List ℕ). get_or bs at 0 ∷ z) (sym e))

  pub row_more : (r s : Node) (t : ℕ) → RowUpTo bs place i r → t ≡ target_at bs place i → little 2 t ≡ take 2 (drop (place + 9 + 3 * i + 1) bs)
      → s.value ≡ r.value → edge_of s (attribute_at bs place i) ≡ some t → ((b : ℕ) → (b ≡ attribute_at bs place i → ⊥) → edge_of s b ≡ edge_of r b) → RowUpTo bs place (i + 1) s
  row_more r s t u t-is t-bytes v here others =
      let a = attribute_at bs place i in
      let small = (rising i within).0 in
      let k = 31 - a in
      let all : a + suc k ≡ 32 = omega arith in
      let put = entries_put (edge_of r) (edge_of s) a t k above here others in
      let put_count = count_put (edge_of r) (edge_of s) a t k above here others in
      record {
        value = v ∙ u.value;
        worth = ap (little 8) v ∙ u.worth;
        entries = subst (λ (z : ℕ). along (λ b. entry b (edge_of s b)) 0 z ≡ along (λ b. entry b (edge_of r b)) 0 z ++ (a ∷ little 2 t)) all put ∙ ap (λ (z : List ℕ). z ++ (a ∷ little 2 t)) u.entries ∙ sym (entry_more t t-bytes);
        many = subst (λ (z : ℕ). count (λ b. one_if (edge_of s b)) 0 z ≡ count (λ b. one_if (edge_of r b)) 0 z + 1) all put_count ∙ ap (λ (z : ℕ). z + 1) u.many;
        edges = λ b w e. pick b w e (compare b a);
      }
    where
      above : (b : ℕ) → attribute_at bs place i ≤ b → edge_of r b ≡ none
      above b l = none_without (edge_of r b) (λ w e. let o = u.edges b w e in let lower = (rising i within).1 o.0 o.1 in omega (arith, o.2))

      old : (b w : ℕ) → edge_of s b ≡ some w → (b ≡ attribute_at bs place i → ⊥) → (j : ℕ) × (j < i + 1) × (attribute_at bs place j ≡ b) × (target_at bs place j ≡ w)
      old b w e q =
          let o = u.edges b w (sym (others b q) ∙ e) in
          (o.0, omega (arith, o.1), o.2, o.3)

      pick : (b w : ℕ) → edge_of s b ≡ some w → Three (b < attribute_at bs place i) (b ≡ attribute_at bs place i) (attribute_at bs place i < b) → (j : ℕ) × (j < i + 1) × (attribute_at bs place j ≡ b) × (target_at bs place j ≡ w)
      pick b w e (second q) =
          let same : some t ≡ some w = sym here ∙ sym (ap (edge_of s) q) ∙ e in
          let is : t ≡ w = cc in
          (i, omega arith, sym q, sym t-is ∙ is)
      pick b w e (first q) = old b w e (λ z. omega arith)
      pick b w e (third q) = old b w e (λ z. omega arith)

-- with all its attributes, the row is that of the record
pub row_whole : (bs : List ℕ) (place : ℕ) (r : Node) → place + 9 + 3 * count_at bs place ≤ length bs → RowUpTo bs place (count_at bs place) r → RowAt bs place r
row_whole bs place r fits u = record {
  bytes =
      let c = count_at bs place in
      let first : drop (place + 8) bs ≡ get_or bs (place + 8) 0 ∷ drop (suc (place + 8)) bs = drop-cons bs (place + 8) 0 (omega arith) in
      let nine : suc (place + 8) ≡ place + 9 = omega arith in
      let rest : take (1 + 3 * c) (drop (place + 8) bs) ≡ c ∷ take (3 * c) (drop (place + 9) bs) = ap (λ (z : ℕ). take z (drop (place + 8) bs)) one ∙ ap (take (suc (3 * c))) first ∙ ap (λ (z : ℕ). c ∷ take (3 * c) (drop z bs)) nine in
      let split : take (9 + 3 * c) (drop place bs) ≡ take 8 (drop place bs) ++ take (1 + 3 * c) (drop (place + 8) bs) = ap (λ (z : ℕ). take z (drop place bs)) eight ∙ take-add 8 (1 + 3 * c) (drop place bs) ∙ ap (λ (z : List ℕ). take 8 (drop place bs) ++ take (1 + 3 * c) z) (drop-drop 8 place bs) in
      append_assoc (little 8 r.value) (count (λ a. one_if (edge_of r a)) 0 32 ∷ []) (along (λ a. entry a (edge_of r a)) 0 32)
      ∙ (λ i. u.worth i ++ (u.many i ∷ u.entries i))
      ∙ sym (split ∙ ap (λ (z : List ℕ). take 8 (drop place bs) ++ z) rest);
  value = u.value;
  edges = λ a t e. let o = u.edges a t e in (o.0, o.1, o.3);
}
  where
    one : 1 + 3 * count_at bs place ≡ suc (3 * count_at bs place)
    one = omega arith

    eight : 9 + 3 * count_at bs place ≡ 8 + (1 + 3 * count_at bs place)
    eight = omega arith
