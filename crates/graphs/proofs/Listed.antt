-- The bytes of a graph meet all that is asked of a listing.
use Rattle.std.proofs.Common.{◌≡◌, ℕ, zero, suc, ◌+◌, ◌-◌, ◌*◌, ◌^◌, ◌<◌, ◌≤◌, List, [], ◌∷◌, ◌++◌, length, get_or, take, drop, sym, refl, ap, ◌∙◌, append_assoc, append-nil, mod-eq_of_lt, arith, length-append, get_or-drop, drop-drop, take_at, drop_at}
use mathlib.Core.Option.{Option, some, none}
use lib.Seq.{get_or-append_seam}
use Rattle.kinds.specs.Meaning.{Meaning}
use Rattle.features.specs.Graphs.{Graph}
use Rattle.features.specs.Listing.{little, entry, along, one_if, count, record_of}
use Rattle.features.specs.Bytes.{from_little, attributes_of, Written}
use Rattle.features.proofs.Bytes.{length_little, from_little_little, along_at, along_more, along_append, length_record, length_records, listing_bounded, listing_length, count_constant, length_along}
use Rattle.graphs.specs.Listings.{field, node_count, variable_count, table_place, root_at, value_at, count_at, attribute_at, target_at, start}
use Rattle.graphs.specs.Reading.{Counted, Right}

-- a field is the part that stands there
part_at : (bs before part after : List ℕ) (p k : ℕ) → bs ≡ before ++ (part ++ after) → length before ≡ p → length part ≡ k → take k (drop p bs) ≡ part
part_at bs before part after p k e l m = ap (λ (z : List ℕ). take k (drop p z)) e ∙ ap (take k) (drop_at before (part ++ after) p l) ∙ take_at part after k m

field_is : (bs before after : List ℕ) (p k n : ℕ) → bs ≡ before ++ (little k n ++ after) → length before ≡ p → n < 256 ^ k → field bs p k ≡ n
field_is bs before after p k n e l small = ap from_little (part_at bs before (little k n) after p k e l (length_little k n)) ∙ from_little_little k n ∙ mod-eq_of_lt small

-- the i-th attribute of a record, and where it leads
abbrev entries : (ℕ → Option ℕ) → ℕ → ℕ → List ℕ
entries e a k = along (λ b. entry b (e b)) a k

pub record EntryAt (e : ℕ → Option ℕ) (a i : ℕ) (xs : List ℕ) : Type 0 where
  pub target : ℕ
  pub leads : e (get_or xs (3 * i) 0) ≡ some target
  pub from : a ≤ get_or xs (3 * i) 0
  pub bytes : take 2 (drop (3 * i + 1) xs) ≡ little 2 target

entry_at : (e : ℕ → Option ℕ) (a k i : ℕ) (rest : List ℕ) → i < count (λ b. one_if (e b)) a k → EntryAt e a i (entries e a k ++ rest)
entry_at e a zero i rest l = absurd (omega arith)
entry_at e a (suc k) i rest l = by_first (e a) refl i l (λ j h. entry_at e (suc a) k j rest h)
  where
    by_first : (o : Option ℕ) → e a ≡ o → (i : ℕ) → i < one_if o + count (λ b. one_if (e b)) (suc a) k → ((j : ℕ) → j < count (λ b. one_if (e b)) (suc a) k → EntryAt e (suc a) j (entries e (suc a) k ++ rest)) → EntryAt e a i ((entry a o ++ entries e (suc a) k) ++ rest)
    by_first none q i l later = let r = later i (omega arith) in record { target = r.target; leads = r.leads; from = omega (arith, r.from); bytes = r.bytes }
    by_first (some t) q zero l later = record { target = t; leads = q; from = omega arith; bytes = refl }
    by_first (some t) q (suc j) l later =
        let r = later j (omega arith) in
        let xs = entries e (suc a) k ++ rest in
        let ys = (entry a (some t) ++ entries e (suc a) k) ++ rest in
        let s : get_or ys (3 * suc j) 0 ≡ get_or xs (3 * j) 0 = ap (λ (z : ℕ). get_or ys z 0) (three j) in
        let d : drop (3 * suc j + 1) ys ≡ drop (3 * j + 1) xs = ap (λ (z : ℕ). drop z ys) (three_one j) in
        record { target = r.target; leads = ap e s ∙ r.leads; from = omega (arith, s, r.from); bytes = ap (take 2) d ∙ r.bytes }
      where
        three : (j : ℕ) → 3 * suc j ≡ suc (suc (suc (3 * j)))
        three j = omega arith

        three_one : (j : ℕ) → 3 * suc j + 1 ≡ suc (suc (suc (3 * j + 1)))
        three_one j = omega arith

entry_rises : (e : ℕ → Option ℕ) (a k i j : ℕ) (rest : List ℕ) → i < count (λ b. one_if (e b)) a k → j < i → get_or (entries e a k ++ rest) (3 * j) 0 < get_or (entries e a k ++ rest) (3 * i) 0
entry_rises e a zero i j rest l h = absurd (omega arith)
entry_rises e a (suc k) i j rest l h = by_first (e a) i j l h (λ u v. entry_rises e (suc a) k u v rest)
  where
    three : (j : ℕ) → 3 * suc j ≡ suc (suc (suc (3 * j)))
    three j = omega arith

    by_first : (o : Option ℕ) (i j : ℕ) → i < one_if o + count (λ b. one_if (e b)) (suc a) k → j < i → ((u v : ℕ) → u < count (λ b. one_if (e b)) (suc a) k → v < u → get_or (entries e (suc a) k ++ rest) (3 * v) 0 < get_or (entries e (suc a) k ++ rest) (3 * u) 0) → get_or ((entry a o ++ entries e (suc a) k) ++ rest) (3 * j) 0 < get_or ((entry a o ++ entries e (suc a) k) ++ rest) (3 * i) 0
    by_first none i j l h later = later i j (omega arith) h
    by_first (some t) zero j l h later = absurd (omega arith)
    by_first (some t) (suc u) zero l h later =
        let ys = (entry a (some t) ++ entries e (suc a) k) ++ rest in
        let s = ap (λ (z : ℕ). get_or ys z 0) (three u) in
        let r = entry_at e (suc a) k u rest (omega arith) in
        omega (arith, s, r.from)
    by_first (some t) (suc u) (suc v) l h later =
        let ys = (entry a (some t) ++ entries e (suc a) k) ++ rest in
        let s = ap (λ (z : ℕ). get_or ys z 0) (three u) in
        let d = ap (λ (z : ℕ). get_or ys z 0) (three v) in
        let r = later u v (omega arith) (omega arith) in
        omega (arith, s, d, r)

module _ (m : Meaning) (bs : List ℕ) (g : Graph) (w : Written m bs g) where
  module _ (k : ℕ) (inside : k < g.nodes) where
    e : ℕ → Option ℕ
    e = g.edge k

    -- what stands before and after record k
    behind : List ℕ
    behind = along (record_of g) (suc k) (g.nodes - suc k) ++ along (λ x. little 2 (g.root x)) 0 g.vars ++ little 2 g.nodes ++ little 2 g.vars ++ little 4 (length (along (record_of g) 0 g.nodes))

    around : bs ≡ along (record_of g) 0 k ++ (record_of g k ++ behind)
    unfolding behind
    around =
        let j = g.nodes - suc k in
        let all : g.nodes ≡ k + suc j = omega arith in
        let split = ap (along (record_of g) 0) all ∙ along_at (record_of g) k j in
        let xs = along (λ x. little 2 (g.root x)) 0 g.vars in
        let last = little 4 (length (along (record_of g) 0 g.nodes)) in
        w.bytes ∙ ap (λ (z : List ℕ). z ++ xs ++ little 2 g.nodes ++ little 2 g.vars ++ last) split
        ∙ regroup (along (record_of g) 0 k) (record_of g k) (along (record_of g) (suc k) j) xs (little 2 g.nodes) (little 2 g.vars) last
      where
        regroup : (p q r s t u v : List ℕ) → (p ++ (q ++ r)) ++ s ++ t ++ u ++ v ≡ p ++ (q ++ (r ++ s ++ t ++ u ++ v))
        regroup p q r s t u v = simp append_assoc

    -- where record k starts, given where those before it end
    module _ (at : start bs k ≡ length (along (record_of g) 0 k)) where
      head : List ℕ
      head = along (record_of g) 0 k ++ little 8 (g.value k)

      long_head : length head ≡ start bs k + 8
      unfolding head
      long_head = length-append (along (record_of g) 0 k) (little 8 (g.value k)) ∙ omega (arith, at, length_little 8 (g.value k))

      after_head : bs ≡ head ++ (attributes_of g k ∷ (entries e 0 32 ++ behind))
      unfolding head e
      after_head = around ∙ regroup (along (record_of g) 0 k) (little 8 (g.value k)) (attributes_of g k) (entries (g.edge k) 0 32) behind
        where
          regroup : (p q : List ℕ) (n : ℕ) (r s : List ℕ) → p ++ ((q ++ (n ∷ []) ++ r) ++ s) ≡ (p ++ q) ++ (n ∷ (r ++ s))
          regroup p q n r s = simp append_assoc

      count_is : count_at bs (start bs k) ≡ attributes_of g k
      count_is =
          ap (λ (z : List ℕ). get_or z (start bs k + 8) 0) after_head
          ∙ ap (λ (z : ℕ). get_or (head ++ (attributes_of g k ∷ (entries e 0 32 ++ behind))) z 0) (sym long_head)
          ∙ get_or-append_seam head (attributes_of g k) (entries e 0 32 ++ behind) 0

      value_is : value_at bs (start bs k) ≡ g.value k
      value_is = field_is bs (along (record_of g) 0 k) ((attributes_of g k ∷ []) ++ (entries (g.edge k) 0 32 ++ behind)) (start bs k) 8 (g.value k) (around ∙ regroup (along (record_of g) 0 k) (little 8 (g.value k)) (attributes_of g k ∷ []) (entries (g.edge k) 0 32) behind) (sym at) (w.within.values k inside)
        where
          regroup : (p q n r s : List ℕ) → p ++ ((q ++ n ++ r) ++ s) ≡ p ++ (q ++ (n ++ (r ++ s)))
          regroup p q n r s = simp append_assoc

      tail_is : drop (start bs k + 9) bs ≡ entries (g.edge k) 0 32 ++ behind
      unfolding e
      tail_is =
          let long : length (head ++ (attributes_of g k ∷ [])) ≡ start bs k + 9 = length-append head (attributes_of g k ∷ []) ∙ omega (arith, long_head) in
          ap (drop (start bs k + 9)) (after_head ∙ sym (append_assoc head (attributes_of g k ∷ []) (entries (g.edge k) 0 32 ++ behind)))
          ∙ drop_at (head ++ (attributes_of g k ∷ [])) (entries (g.edge k) 0 32 ++ behind) (start bs k + 9) long

      attribute_is : (i : ℕ) → attribute_at bs (start bs k) i ≡ get_or (entries (g.edge k) 0 32 ++ behind) (3 * i) 0
      attribute_is i = sym (get_or-drop (start bs k + 9) bs (3 * i) 0) ∙ ap (λ (z : List ℕ). get_or z (3 * i) 0) tail_is

      target_is : (i t : ℕ) → t < 65536 → take 2 (drop (3 * i + 1) (entries (g.edge k) 0 32 ++ behind)) ≡ little 2 t → target_at bs (start bs k) i ≡ t
      target_is i t small q =
          let there : start bs k + 9 + 3 * i + 1 ≡ start bs k + 9 + (3 * i + 1) = omega arith in
          let is : take 2 (drop (start bs k + 9 + 3 * i + 1) bs) ≡ little 2 t = ap (λ (z : ℕ). take 2 (drop z bs)) there ∙ ap (take 2) (sym (drop-drop (3 * i + 1) (start bs k + 9) bs) ∙ ap (drop (3 * i + 1)) tail_is) ∙ q in
          ap from_little is ∙ from_little_little 2 t ∙ mod-eq_of_lt small

  starts : (k : ℕ) → k ≤ g.nodes → start bs k ≡ length (along (record_of g) 0 k)
  starts zero l = refl
  starts (suc k) l =
      let at = starts k (omega arith) in
      let more = ap length (along_more (record_of g) k) ∙ length-append (along (record_of g) 0 k) (record_of g k) in
      omega (arith, at, more, length_record g k, count_is k l at)

  -- the last eight bytes
  front : List ℕ
  front = along (record_of g) 0 g.nodes ++ along (λ x. little 2 (g.root x)) 0 g.vars

  whole_length : length bs ≡ length (along (record_of g) 0 g.nodes) + 2 * g.vars + 8
  whole_length = ap length w.bytes ∙ listing_length g ∙ omega (arith, length_records g g.nodes)

  roots_long : length (along (λ x. little 2 (g.root x)) 0 g.vars) ≡ 2 * g.vars
  roots_long = omega (arith, length_along (λ x. little 2 (g.root x)) 0 g.vars, count_constant (λ x. length (little 2 (g.root x))) 2 0 g.vars (λ n l h. refl))

  long_front : length front ≡ length bs - 8
  unfolding front
  long_front = length-append (along (record_of g) 0 g.nodes) (along (λ x. little 2 (g.root x)) 0 g.vars) ∙ omega (arith, whole_length, roots_long)

  small_length : length (along (record_of g) 0 g.nodes) < 256 ^ 4
  small_length = omega (arith, whole_length, listing_bounded g w.within, ap length w.bytes)

  nodes_are : node_count bs ≡ g.nodes
  unfolding front
  nodes_are = field_is bs front (little 2 g.vars ++ little 4 (length (along (record_of g) 0 g.nodes))) (length bs - 8) 2 g.nodes (w.bytes ∙ regroup front (little 2 g.nodes) (little 2 g.vars) (little 4 (length (along (record_of g) 0 g.nodes)))) long_front (omega (arith, w.within.few_nodes))
    where
      regroup : (p q r s : List ℕ) → p ++ q ++ r ++ s ≡ p ++ (q ++ (r ++ s))
      regroup p q r s = simp append_assoc

  variables_are : variable_count bs ≡ g.vars
  unfolding front
  variables_are = field_is bs (front ++ little 2 g.nodes) (little 4 (length (along (record_of g) 0 g.nodes))) (length bs - 6) 2 g.vars (w.bytes ∙ append_assoc (front ++ little 2 g.nodes) (little 2 g.vars) (little 4 (length (along (record_of g) 0 g.nodes)))) (length-append front (little 2 g.nodes) ∙ omega (arith, long_front, whole_length)) (omega (arith, w.within.few_vars))

  place_is : table_place bs ≡ length (along (record_of g) 0 g.nodes)
  unfolding front
  place_is = field_is bs (front ++ little 2 g.nodes ++ little 2 g.vars) [] (length bs - 4) 4 (length (along (record_of g) 0 g.nodes)) (w.bytes ∙ ap (λ (z : List ℕ). front ++ little 2 g.nodes ++ little 2 g.vars ++ z) (sym (append-nil (little 4 (length (along (record_of g) 0 g.nodes)))))) (length-append (front ++ little 2 g.nodes) (little 2 g.vars) ∙ omega (arith, length-append front (little 2 g.nodes), long_front, whole_length)) small_length

  pub listed_counted : Counted bs
  listed_counted = record {
    long = omega (arith, whole_length);
    nodes = omega (arith, nodes_are, w.within.few_nodes);
    variables = omega (arith, variables_are, w.within.few_vars);
    whole = omega (arith, whole_length, variables_are, place_is);
  }

  pub listed_ends : start bs (node_count bs) ≡ table_place bs
  listed_ends = ap (start bs) nodes_are ∙ starts g.nodes (omega arith) ∙ sym place_is

  pub listed_right : (k : ℕ) → k < node_count bs → Right m bs k
  listed_right k l = right k (omega (arith, nodes_are))
    where
      right : (k : ℕ) → k < g.nodes → Right m bs k
      right k inside =
          let at = starts k (omega arith) in
          let j = g.nodes - suc k in
          let all : g.nodes ≡ suc k + j = omega arith in
          let split = ap length (ap (along (record_of g) 0) all ∙ along_append (record_of g) 0 (suc k) j) ∙ length-append (along (record_of g) 0 (suc k)) (along (record_of g) (0 + suc k) j) in
          let many = count_is k inside at in
          let entry_of = λ (i : ℕ) (h : i < count_at bs (start bs k)). entry_at (g.edge k) 0 32 i (behind k inside) (omega (arith, many)) in
          record {
            fits = omega (arith, starts (suc k) inside, split, place_is);
            valued = ap m.value (value_is k inside at) ∙ w.feature.values k inside;
            rising = λ i h. (
              (let r = entry_of i h in let small = (w.within.edges k _ r.target inside r.leads).0 in omega (arith, attribute_is k inside at i, small)),
              λ v u. (let rise = entry_rises (g.edge k) 0 32 i v (behind k inside) (omega (arith, many)) u in omega (arith, attribute_is k inside at i, attribute_is k inside at v, rise)),
            );
            targets = λ i h.
                let r = entry_of i h in
                let t_in = (w.within.edges k _ r.target inside r.leads).1 in
                let is = target_is k inside at i r.target (omega (arith, t_in, w.within.few_nodes)) r.bytes in
                omega (arith, is, t_in, nodes_are);
            bare = λ leaf.
                many ∙ count_constant (λ a. one_if (g.edge k a)) 0 0 32 (λ a l h. ap one_if (w.feature.leaves k a inside (sym (ap m.leaf (value_is k inside at)) ∙ leaf)));
          }

  pub listed_root : (x : ℕ) → x < variable_count bs → root_at bs x < node_count bs
  listed_root x l =
      let inside : x < g.vars = omega (arith, variables_are) in
      let j = g.vars - suc x in
      let all : g.vars ≡ x + suc j = omega arith in
      let rs = along (record_of g) 0 g.nodes in
      let f : ℕ → List ℕ = λ y. little 2 (g.root y) in
      let split = ap (along f 0) all ∙ along_at f x j in
      let last = little 2 g.nodes ++ little 2 g.vars ++ little 4 (length rs) in
      let root_in = w.within.roots x inside in
      let long : length (rs ++ along f 0 x) ≡ table_place bs + 2 * x = length-append rs (along f 0 x) ∙ omega (arith, place_is, length_along f 0 x, count_constant (λ y. length (f y)) 2 0 x (λ n u h. refl)) in
      let is = field_is bs (rs ++ along f 0 x) (along f (suc x) j ++ last) (table_place bs + 2 * x) 2 (g.root x)
      (w.bytes ∙ ap (λ (z : List ℕ). rs ++ z ++ little 2 g.nodes ++ little 2 g.vars ++ little 4 (length rs)) split ∙ regroup rs (along f 0 x) (f x) (along f (suc x) j) (little 2 g.nodes) (little 2 g.vars) (little 4 (length rs))) long (omega (arith, root_in, w.within.few_nodes)) in
      omega (arith, is, root_in, nodes_are)
    where
      regroup : (r p q s t u v : List ℕ) → r ++ (p ++ (q ++ s)) ++ t ++ u ++ v ≡ (r ++ p) ++ (q ++ (s ++ (t ++ u ++ v)))
      regroup r p q s t u v = simp append_assoc
