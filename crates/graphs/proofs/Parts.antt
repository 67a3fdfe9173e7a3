-- Parts of bytes, and the record that is one of them.
use Rattle.std.proofs.Common.{◌≡◌, ℕ, ◌+◌, ◌*◌, ◌<◌, ◌≤◌, List, ◌++◌, length, get_or, take, drop, sym, ap, ◌∙◌, subst, add-zero, arith, length-append, length-take, length-drop, drop-drop, take_all}
use native.Mathlib.Decide.{dec_lt}
use Rattle.std.proofs.Math.ListN.{get_or-append}
use Rattle.std.proofs.Math.Seq.{drop-append_seam}
use Rattle.std.proofs.lemmas.List.{get_or-drop, get_or-take}
use Rattle.features.specs.Bytes.{from_little}
use Rattle.tables.specs.declared.node.Node.{Node}
use Rattle.graphs.specs.Listings.{field, node_count, table_place, value_at, count_at, attribute_at, target_at, record_length, start}
use Rattle.graphs.specs.Reading.{Counted, Fits, Rising, TargetsInside}
use Rattle.graphs.specs.Rows.{RowAt}
use Rattle.graphs.proofs.LowestFirst.{take_drop, bytes_alike}

-- the numbers below i, and i
pub upto : (P : ℕ → Type 0) (i : ℕ) → ((j : ℕ) → j < i → P j) → P i → (j : ℕ) → j < i + 1 → P j
upto P i below here j l = pick (dec_lt j i)
  where
    pick : Dec (j < i) → P j
    pick (yes h) = below j h
    pick (no h) = subst P (omega arith) here

-- what stands at a place in bytes
pub record PartOf (bs : List ℕ) (p : ℕ) (r : List ℕ) : Type 0 where
  pub fits : p + length r ≤ length bs
  pub same : (i : ℕ) → i < length r → get_or r i 0 ≡ get_or bs (p + i) 0

pub part_front : (bs : List ℕ) (p : ℕ) (x rest : List ℕ) → p ≤ length bs → drop p bs ≡ x ++ rest → PartOf bs p x
part_front bs p x rest l e = record {
  fits = omega (arith, l, ap length e, length-drop p bs, length-append x rest);
  same = λ i h. sym (get_or-append x rest 0 i h) ∙ ap (λ (z : List ℕ). get_or z i 0) (sym e) ∙ get_or-drop p bs i 0;
}

pub after_front : (bs : List ℕ) (p n : ℕ) (x rest : List ℕ) → length x ≡ n → drop p bs ≡ x ++ rest → rest ≡ drop (p + n) bs
after_front bs p n x rest long e =
    sym (drop-append_seam x rest) ∙ ap (drop (length x)) (sym e) ∙ drop-drop (length x) p bs ∙ ap (λ (z : ℕ). drop (p + z) bs) long

pub part_between : (bs : List ℕ) (p t : ℕ) → p ≤ t → t ≤ length bs → PartOf bs p (drop p (take t bs))
part_between bs p t l h = record {
  fits = omega (arith, l, h, length-drop p (take t bs), length-take t bs);
  same = λ i k. get_or-drop p (take t bs) i 0 ∙ get_or-take t bs (p + i) 0 (omega (arith, k, l, h, length-drop p (take t bs), length-take t bs));
}

pub part_cut : (bs : List ℕ) (p n : ℕ) → p + n ≤ length bs → PartOf bs p (take n (drop p bs))
part_cut bs p n h = record {
  fits = omega (arith, h, length-take n (drop p bs), length-drop p bs);
  same = λ i k. get_or-take n (drop p bs) i 0 (omega (arith, h, k, length-take n (drop p bs), length-drop p bs)) ∙ get_or-drop p bs i 0;
}

module _ (bs : List ℕ) (p : ℕ) (r : List ℕ) (part : PartOf bs p r) where
  pub bytes_same : (q k : ℕ) → q + k ≤ length r → take k (drop q r) ≡ take k (drop (p + q) bs)
  bytes_same q k h =
      let alike = bytes_alike r bs q (p + q) k (λ i l. let at : p + (q + i) ≡ p + q + i = omega arith in part.same (q + i) (omega arith) ∙ ap (λ (z : ℕ). get_or bs z 0) at) in
      take_drop r q k h ∙ alike ∙ sym (take_drop bs (p + q) k (omega (arith, part.fits)))

  pub field_same : (q k : ℕ) → q + k ≤ length r → field r q k ≡ field bs (p + q) k
  field_same q k h = ap from_little (bytes_same q k h)

  pub first_same : 0 < length r → get_or r 0 0 ≡ get_or bs p 0
  first_same h = part.same 0 h ∙ ap (λ (z : ℕ). get_or bs z 0) (add-zero p)

-- the next of the entries of a record, and that there is none
pub record EntryAt (bs : List ℕ) (i : ℕ) (x rest : List ℕ) : Type 0 where
  pub inside : i < count_at bs 0
  pub attribute : get_or x 0 0 ≡ attribute_at bs 0 i
  pub target : field x 1 2 ≡ target_at bs 0 i
  pub target_bytes : take 2 (drop 1 x) ≡ take 2 (drop (9 + 3 * i + 1) bs)
  pub others : rest ≡ drop (9 + 3 * (i + 1)) bs

pub entry_next : (bs : List ℕ) (i : ℕ) (x rest : List ℕ) → length bs ≡ record_length bs 0 → length x ≡ 3 → drop (9 + 3 * i) bs ≡ x ++ rest → EntryAt bs i x rest
entry_next bs i x rest whole three e =
    let p = 9 + 3 * i in
    let inside : i < count_at bs 0 = omega (arith, whole, three, ap length e, length-drop p bs, length-append x rest) in
    let part = part_front bs p x rest (omega (arith, whole, inside)) e in
    let next : p + 3 ≡ 9 + 3 * (i + 1) = omega arith in
    record {
      inside = inside;
      attribute = first_same bs p x part (omega (arith, three));
      target = field_same bs p x part 1 2 (omega (arith, three));
      target_bytes = bytes_same bs p x part 1 2 (omega (arith, three));
      others = after_front bs p 3 x rest three e ∙ ap (λ (z : ℕ). drop z bs) next;
    }

pub entries_end : (bs : List ℕ) (i : ℕ) → length bs ≡ record_length bs 0 → i ≤ count_at bs 0 → length (drop (9 + 3 * i) bs) < 3 → i ≡ count_at bs 0
entries_end bs i whole few short = omega (arith, length-drop (9 + 3 * i) bs)

-- the next of v fields of two bytes from a place on
pub record FieldAt (bs : List ℕ) (p v x : ℕ) (f rest : List ℕ) : Type 0 where
  pub inside : x < v
  pub value : field f 0 2 ≡ field bs (p + 2 * x) 2
  pub bytes : take 2 f ≡ take 2 (drop (p + 2 * x) bs)
  pub others : rest ≡ drop (2 * (x + 1)) (take (2 * v) (drop p bs))

pub field_next : (bs : List ℕ) (p v x : ℕ) (f rest : List ℕ) → p + 2 * v ≤ length bs → length f ≡ 2 → drop (2 * x) (take (2 * v) (drop p bs)) ≡ f ++ rest → FieldAt bs p v x f rest
field_next bs p v x f rest fits two e =
    let fields = take (2 * v) (drop p bs) in
    let inside : x < v = omega (arith, fits, two, ap length e, length-drop (2 * x) fields, length-take (2 * v) (drop p bs), length-drop p bs, length-append f rest) in
    let long : length fields ≡ 2 * v = omega (arith, fits, length-take (2 * v) (drop p bs), length-drop p bs) in
    let all = part_cut bs p (2 * v) fits in
    let part = part_front fields (2 * x) f rest (omega (arith, long, inside)) e in
    let bytes = bytes_same fields (2 * x) f part 0 2 (omega (arith, two)) ∙ ap (λ (z : ℕ). take 2 (drop z fields)) (add-zero (2 * x)) ∙ bytes_same bs p fields all (2 * x) 2 (omega (arith, long, inside)) in
    let next : 2 * x + 2 ≡ 2 * (x + 1) = omega arith in
    record { inside = inside; value = ap from_little bytes; bytes = bytes; others = after_front fields (2 * x) 2 f rest two e ∙ ap (λ (z : ℕ). drop z fields) next }

-- attributes that are equal one by one
rising_same : (bs : List ℕ) (p : ℕ) (cs : List ℕ) (q : ℕ) → count_at bs p ≡ count_at cs q → ((i : ℕ) → i < count_at bs p → attribute_at bs p i ≡ attribute_at cs q i) → Rising bs p → Rising cs q
rising_same bs p cs q many same rising i l =
    let here : i < count_at bs p = omega (arith, many) in
    let up = rising i here in
    (subst (λ (z : ℕ). z < 32) (same i here) up.0, λ j h. let lower = up.1 j h in omega (arith, lower, same i here, same j (omega arith)))

-- the record at a place
module _ (bs : List ℕ) (p : ℕ) (r : List ℕ) (fits : p + record_length bs p ≤ length bs) (is : r ≡ take (record_length bs p) (drop p bs)) where
  long : length r ≡ record_length bs p
  long = omega (arith, fits, ap length is, length-take (record_length bs p) (drop p bs), length-drop p bs)

  part : PartOf bs p r
  part = subst (PartOf bs p) (sym is) (part_cut bs p (record_length bs p) fits)

  pub value_same : value_at r 0 ≡ value_at bs p
  value_same = field_same bs p r part 0 8 (omega (arith, long)) ∙ ap (λ (z : ℕ). field bs z 8) (add-zero p)

  pub count_same : count_at r 0 ≡ count_at bs p
  count_same = part.same 8 (omega (arith, long))

  attribute_same : (i : ℕ) → i < count_at bs p → attribute_at r 0 i ≡ attribute_at bs p i
  attribute_same i l =
      let at : p + (9 + 3 * i) ≡ p + 9 + 3 * i = omega arith in
      part.same (9 + 3 * i) (omega (arith, long)) ∙ ap (λ (z : ℕ). get_or bs z 0) at

  target_same : (i : ℕ) → i < count_at bs p → target_at r 0 i ≡ target_at bs p i
  target_same i l =
      let at : p + (9 + 3 * i + 1) ≡ p + 9 + 3 * i + 1 = omega arith in
      field_same bs p r part (9 + 3 * i + 1) 2 (omega (arith, long)) ∙ ap (λ (z : ℕ). field bs z 2) at

  pub rising_here : Rising r 0 → Rising bs p
  rising_here = rising_same r 0 bs p count_same (λ i l. attribute_same i (omega (arith, count_same)))

  pub rising_there : Rising bs p → Rising r 0
  rising_there = rising_same bs p r 0 (sym count_same) (λ i l. sym (attribute_same i l))

  pub targets_here : (n : ℕ) → ((i : ℕ) → i < count_at r 0 → target_at r 0 i < n) → (i : ℕ) → i < count_at bs p → target_at bs p i < n
  targets_here n inside i l = let t = inside i (omega (arith, count_same)) in omega (arith, t, target_same i l)

  pub targets_there : (n : ℕ) → ((i : ℕ) → i < count_at bs p → target_at bs p i < n) → (i : ℕ) → i < count_at r 0 → target_at r 0 i < n
  targets_there n inside i l = let h : i < count_at bs p = omega (arith, count_same) in let t = inside i h in omega (arith, t, target_same i h)

  pub row_here : (row : Node) → RowAt r 0 row → RowAt bs p row
  row_here row at = record {
    bytes = at.bytes ∙ ap (λ (z : ℕ). take (9 + 3 * z) r) count_same ∙ take_all (record_length bs p) r (omega (arith, long)) ∙ is;
    value = at.value ∙ value_same;
    edges = λ a t e. let o = at.edges a t e in let l : o.0 < count_at bs p = omega (arith, o.1, count_same) in (o.0, l, sym (target_same o.0 l) ∙ o.2);
  }

-- record k, read from what is left before t
pub record RecordIs (bs : List ℕ) (k : ℕ) (r : List ℕ) : Type 0 where
  pub fits : Fits bs k
  pub value : value_at r 0 ≡ value_at bs (start bs k)
  pub count : count_at r 0 ≡ count_at bs (start bs k)
  pub rising_here : Rising r 0 → Rising bs (start bs k)
  pub rising_there : Rising bs (start bs k) → Rising r 0
  pub targets_here : (n : ℕ) → n ≡ node_count bs → ((i : ℕ) → i < count_at r 0 → target_at r 0 i < n) → TargetsInside bs (start bs k)
  pub targets_there : (n : ℕ) → n ≡ node_count bs → TargetsInside bs (start bs k) → (i : ℕ) → i < count_at r 0 → target_at r 0 i < n
  pub bytes : r ≡ take (record_length bs (start bs k)) (drop (start bs k) bs)

pub record_is : (bs : List ℕ) (k t : ℕ) (rest r : List ℕ) → Counted bs → t ≡ table_place bs → start bs k ≤ t → rest ≡ drop (start bs k) (take t bs) → record_length rest 0 ≤ length rest → r ≡ take (record_length rest 0) rest → RecordIs bs k r
record_is bs k t rest r counted place l e fits is =
    let p = start bs k in
    let within : t ≤ length bs = omega (arith, counted.whole, place) in
    let part = subst (PartOf bs p) (sym e) (part_between bs p t l within) in
    let count : count_at rest 0 ≡ count_at bs p = part.same 8 (omega (arith, fits)) in
    let all : 0 + record_length bs p ≤ length rest = omega (arith, fits, count) in
    let bytes = is ∙ ap (λ (z : ℕ). take (9 + 3 * z) rest) count ∙ bytes_same bs p rest part 0 (record_length bs p) all ∙ ap (λ (z : ℕ). take (record_length bs p) (drop z bs)) (add-zero p) in
    let full : p + record_length bs p ≤ length bs = omega (arith, all, part.fits) in
    record {
      fits = omega (arith, all, place, l, ap length e, length-drop p (take t bs), length-take t bs);
      value = value_same bs p r full bytes;
      count = count_same bs p r full bytes;
      rising_here = rising_here bs p r full bytes;
      rising_there = rising_there bs p r full bytes;
      targets_here = λ n m. rw m (targets_here bs p r full bytes (node_count bs));
      targets_there = λ n m. rw m (targets_there bs p r full bytes (node_count bs));
      bytes = bytes;
    }
