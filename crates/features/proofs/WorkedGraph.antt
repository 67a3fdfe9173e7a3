-- The worked graph: what it satisfies, what it joins, and its numbering.
use Rattle.std.proofs.Common.{◌≡◌, ℕ, zero, suc, ◌<◌, ◌≤◌, List, [], ◌∷◌, length, get_or, sym, refl, subst, inl, inr, arith}
use mathlib.Core.Option.{Option, some, none}
use mathlib.Core.List.{Memᴰ}
use Rattle.std.specs.List.{AllByRecursion}
use Rattle.kinds.specs.Meaning.{Meaning, Lawful}
use Rattle.features.specs.Terms.{Term, apart, only, ◌▸◌}
use Rattle.features.specs.Graphs.{Graph, Leads, here, step, Denotes, Satisfies, Model}
use Rattle.features.specs.Order.{InOrder}
use Rattle.features.specs.Listing.{count}
use Rattle.features.specs.Bytes.{attributes_of}
use Rattle.features.specs.Closing.{Joined, variable, stated, turned, chained, begun, beneath, top}
use Rattle.features.specs.Holding.{Holds, Small, end, also, Sound, Proper}
use Rattle.features.specs.Numbering.{Mention, by_variable, by_attribute, Mentions, Sooner, FirstMention, Inside}
use Rattle.features.specs.Worked.{said, targets, worked, WorkedListing}
use Rattle.features.proofs.Paths.{some_same, some_not_none, leads_same, leads_back}
use Rattle.features.proofs.Closure.{every_member}
use Rattle.features.proofs.Sound.{joined_in_model, model_value_under}
use Rattle.features.proofs.Ordering.{Ended, empty, more, ended}
use Rattle.features.proofs.Numbering.{denotes_inside, GivenBefore, breadth_first_by_firsts, breadth_first_in_order}

pub has_nine_attributes : (v : ℕ) → count (attributes_of (worked v)) 0 7 ≡ 9
has_nine_attributes v = refl

pub listing : WorkedListing
listing = refl

abbrev edge : ℕ → ℕ → Option ℕ
edge n a = get_or (get_or targets n []) a none

-- what holds of the nine attributes holds of every attribute
every_edge : (P : ℕ → ℕ → ℕ → Type 0) → P 0 0 3 → P 0 1 4 → P 0 2 4 → P 1 3 5 → P 2 1 6 → P 2 3 2 → P 3 0 0 → P 4 4 5 → P 5 5 6 → (n a t : ℕ) → edge n a ≡ some t → P n a t
every_edge P p0 p1 p2 p3 p4 p5 p6 p7 p8 zero zero t e = subst (λ (z : ℕ). P 0 0 z) (some_same refl e) p0
every_edge P p0 p1 p2 p3 p4 p5 p6 p7 p8 zero (suc zero) t e = subst (λ (z : ℕ). P 0 1 z) (some_same refl e) p1
every_edge P p0 p1 p2 p3 p4 p5 p6 p7 p8 zero (suc (suc zero)) t e = subst (λ (z : ℕ). P 0 2 z) (some_same refl e) p2
every_edge P p0 p1 p2 p3 p4 p5 p6 p7 p8 zero (suc (suc (suc a))) t e = absurd (some_not_none e refl)
every_edge P p0 p1 p2 p3 p4 p5 p6 p7 p8 (suc zero) zero t e = absurd (some_not_none e refl)
every_edge P p0 p1 p2 p3 p4 p5 p6 p7 p8 (suc zero) (suc zero) t e = absurd (some_not_none e refl)
every_edge P p0 p1 p2 p3 p4 p5 p6 p7 p8 (suc zero) (suc (suc zero)) t e = absurd (some_not_none e refl)
every_edge P p0 p1 p2 p3 p4 p5 p6 p7 p8 (suc zero) (suc (suc (suc zero))) t e = subst (λ (z : ℕ). P 1 3 z) (some_same refl e) p3
every_edge P p0 p1 p2 p3 p4 p5 p6 p7 p8 (suc zero) (suc (suc (suc (suc a)))) t e = absurd (some_not_none e refl)
every_edge P p0 p1 p2 p3 p4 p5 p6 p7 p8 (suc (suc zero)) zero t e = absurd (some_not_none e refl)
every_edge P p0 p1 p2 p3 p4 p5 p6 p7 p8 (suc (suc zero)) (suc zero) t e = subst (λ (z : ℕ). P 2 1 z) (some_same refl e) p4
every_edge P p0 p1 p2 p3 p4 p5 p6 p7 p8 (suc (suc zero)) (suc (suc zero)) t e = absurd (some_not_none e refl)
every_edge P p0 p1 p2 p3 p4 p5 p6 p7 p8 (suc (suc zero)) (suc (suc (suc zero))) t e = subst (λ (z : ℕ). P 2 3 z) (some_same refl e) p5
every_edge P p0 p1 p2 p3 p4 p5 p6 p7 p8 (suc (suc zero)) (suc (suc (suc (suc a)))) t e = absurd (some_not_none e refl)
every_edge P p0 p1 p2 p3 p4 p5 p6 p7 p8 (suc (suc (suc zero))) zero t e = subst (λ (z : ℕ). P 3 0 z) (some_same refl e) p6
every_edge P p0 p1 p2 p3 p4 p5 p6 p7 p8 (suc (suc (suc zero))) (suc a) t e = absurd (some_not_none e refl)
every_edge P p0 p1 p2 p3 p4 p5 p6 p7 p8 (suc (suc (suc (suc zero)))) zero t e = absurd (some_not_none e refl)
every_edge P p0 p1 p2 p3 p4 p5 p6 p7 p8 (suc (suc (suc (suc zero)))) (suc zero) t e = absurd (some_not_none e refl)
every_edge P p0 p1 p2 p3 p4 p5 p6 p7 p8 (suc (suc (suc (suc zero)))) (suc (suc zero)) t e = absurd (some_not_none e refl)
every_edge P p0 p1 p2 p3 p4 p5 p6 p7 p8 (suc (suc (suc (suc zero)))) (suc (suc (suc zero))) t e = absurd (some_not_none e refl)
every_edge P p0 p1 p2 p3 p4 p5 p6 p7 p8 (suc (suc (suc (suc zero)))) (suc (suc (suc (suc zero)))) t e = subst (λ (z : ℕ). P 4 4 z) (some_same refl e) p7
every_edge P p0 p1 p2 p3 p4 p5 p6 p7 p8 (suc (suc (suc (suc zero)))) (suc (suc (suc (suc (suc a))))) t e = absurd (some_not_none e refl)
every_edge P p0 p1 p2 p3 p4 p5 p6 p7 p8 (suc (suc (suc (suc (suc zero))))) zero t e = absurd (some_not_none e refl)
every_edge P p0 p1 p2 p3 p4 p5 p6 p7 p8 (suc (suc (suc (suc (suc zero))))) (suc zero) t e = absurd (some_not_none e refl)
every_edge P p0 p1 p2 p3 p4 p5 p6 p7 p8 (suc (suc (suc (suc (suc zero))))) (suc (suc zero)) t e = absurd (some_not_none e refl)
every_edge P p0 p1 p2 p3 p4 p5 p6 p7 p8 (suc (suc (suc (suc (suc zero))))) (suc (suc (suc zero))) t e = absurd (some_not_none e refl)
every_edge P p0 p1 p2 p3 p4 p5 p6 p7 p8 (suc (suc (suc (suc (suc zero))))) (suc (suc (suc (suc zero)))) t e = absurd (some_not_none e refl)
every_edge P p0 p1 p2 p3 p4 p5 p6 p7 p8 (suc (suc (suc (suc (suc zero))))) (suc (suc (suc (suc (suc zero))))) t e = subst (λ (z : ℕ). P 5 5 z) (some_same refl e) p8
every_edge P p0 p1 p2 p3 p4 p5 p6 p7 p8 (suc (suc (suc (suc (suc zero))))) (suc (suc (suc (suc (suc (suc a)))))) t e = absurd (some_not_none e refl)
every_edge P p0 p1 p2 p3 p4 p5 p6 p7 p8 (suc (suc (suc (suc (suc (suc zero)))))) a t e = absurd (some_not_none e refl)
every_edge P p0 p1 p2 p3 p4 p5 p6 p7 p8 (suc (suc (suc (suc (suc (suc (suc n))))))) a t e = absurd (some_not_none e refl)

-- what holds of the four variables' nodes holds of every variable's node
every_root : (P : ℕ → ℕ → Type 0) → P 0 0 → P 1 1 → P 2 0 → P 3 2 → (x : ℕ) → x < 4 → (v : ℕ) → P x ((worked v).root x)
every_root P a b c d zero l v = a
every_root P a b c d (suc zero) l v = b
every_root P a b c d (suc (suc zero)) l v = c
every_root P a b c d (suc (suc (suc zero))) l v = d
every_root P a b c d (suc (suc (suc (suc x)))) l v = absurd (omega arith)

every_node : (P : ℕ → Type 0) → P 0 → P 1 → P 2 → P 3 → P 4 → P 5 → P 6 → (n : ℕ) → n < 7 → P n
every_node P p0 p1 p2 p3 p4 p5 p6 zero l = p0
every_node P p0 p1 p2 p3 p4 p5 p6 (suc zero) l = p1
every_node P p0 p1 p2 p3 p4 p5 p6 (suc (suc zero)) l = p2
every_node P p0 p1 p2 p3 p4 p5 p6 (suc (suc (suc zero))) l = p3
every_node P p0 p1 p2 p3 p4 p5 p6 (suc (suc (suc (suc zero)))) l = p4
every_node P p0 p1 p2 p3 p4 p5 p6 (suc (suc (suc (suc (suc zero))))) l = p5
every_node P p0 p1 p2 p3 p4 p5 p6 (suc (suc (suc (suc (suc (suc zero)))))) l = p6
every_node P p0 p1 p2 p3 p4 p5 p6 (suc (suc (suc (suc (suc (suc (suc n))))))) l = absurd (omega arith)

edges_inside : (v n a t : ℕ) → n < 7 → (worked v).edge n a ≡ some t → (a < 32) × (t < 7)
edges_inside v n a t l e = every_edge (λ n a t. (a < 32) × (t < 7)) (omega arith) (omega arith) (omega arith) (omega arith) (omega arith) (omega arith) (omega arith) (omega arith) (omega arith) n a t e

roots_inside : (v x : ℕ) → x < 4 → (worked v).root x < 7
roots_inside v x l = every_root (λ x r. r < 7) (omega arith) (omega arith) (omega arith) (omega arith) x l v

inside : (v : ℕ) → Inside (worked v)
inside v = record { edges = λ n a t l e. (edges_inside v n a t l e).1; roots = roots_inside v }

pub there_and_back : (v n : ℕ) → Denotes (worked v) (only 0) n → Denotes (worked v) (only 2 ▸ 0 ▸ 0) n × (Denotes (worked v) (only 2 ▸ 0) n → ⊥)
there_and_back v n d =
    let stay : Leads (worked v) 0 [] 0 = here in
    let back : Leads (worked v) 0 (0 ∷ 0 ∷ []) 0 = step refl (step refl here) in
    let out : Leads (worked v) 0 (0 ∷ []) 3 = step refl here in
    ((omega arith, subst (λ (z : ℕ). Leads (worked v) 0 (0 ∷ 0 ∷ []) z) (leads_same stay d.1) back), λ e. omega (arith, leads_same stay d.1, leads_same out e.1))

no_step : {g : Graph} {n a t : ℕ} {rest : List ℕ} → Leads g n (a ∷ rest) t → g.edge n a ≡ none → ⊥
no_step (step e l) q = some_not_none e q

pub two_terms_denote_nothing : (v n : ℕ) → (Denotes (worked v) (only 1 ▸ 3 ▸ 4) n → ⊥) × (Denotes (worked v) (only 3 ▸ 4) n → ⊥)
two_terms_denote_nothing v n = (longer, λ d. no_step d.1 refl)
  where
    longer : Denotes (worked v) (only 1 ▸ 3 ▸ 4) n → ⊥
    longer d =
        let b = leads_back (3 ∷ []) d.1 in
        let out : Leads (worked v) 1 (3 ∷ []) 5 = step refl here in
        some_not_none (subst (λ (z : ℕ). (worked v).edge z 4 ≡ some n) (sym (leads_same out b.1)) b.2) refl

statements : (m : Meaning) → AllByRecursion (Satisfies m (worked m.top)) said
statements m = (
  (6, (omega arith, step refl here), (omega arith, step refl (step refl here))),
  (
    (2, (omega arith, here), (omega arith, step refl here)),
    (
      (5, (omega arith, step refl here), (omega arith, step refl (step refl (step refl (step refl here))))),
      (
        (0, (omega arith, here), (omega arith, here)),
        (
          (4, (omega arith, step refl here), (omega arith, step refl here)),
          (
            (0, (omega arith, here), (omega arith, step refl (step refl here))),
            (different, tt),
          ),
        ),
      ),
    ),
  ),
)
  where
    different : Satisfies m (worked m.top) (apart (only 0 ▸ 0 ▸ 0 ▸ 1 ▸ 4) (only 3))
    different n d e =
        let left : Leads (worked m.top) 0 (0 ∷ 0 ∷ 1 ∷ 4 ∷ []) 5 = step refl (step refl (step refl (step refl here))) in
        let right : Leads (worked m.top) 2 [] 2 = here in
        omega (arith, leads_same left d.1, leads_same right e.1)

pub satisfies_all : (m : Meaning) → Lawful m → Model m 4 said (worked m.top)
satisfies_all m lawful = record {
  feature = record {
    values = λ n l. lawful.top_value;
    edges = edges_inside m.top;
    roots = roots_inside m.top;
    leaves = λ n a l leaf. let z : ◌≡◌ {A = ℕ} 0 1 = cc lawful.top_open in absurd (omega arith);
  };
  declared = omega arith;
  satisfies = every_member (Satisfies m (worked m.top)) said (statements m);
}

-- the trail of each node
trail_of : ℕ → Term
trail_of n = get_or (only 0 ∷ only 1 ∷ only 3 ∷ only 0 ▸ 0 ∷ only 0 ▸ 1 ∷ only 1 ▸ 3 ∷ only 3 ▸ 1 ∷ []) n (only 0)

reached : (v n : ℕ) → n < 7 → Denotes (worked v) (trail_of n) n
unfolding trail_of
reached v =
    every_node (λ n. Denotes (worked v) (trail_of n) n)
    (omega arith, here)
    (omega arith, here)
    (omega arith, here)
    (omega arith, step refl here)
    (omega arith, step refl here)
    (omega arith, step refl here)
    (omega arith, step refl here)

-- one term, and that it denotes
abbrev One : Term → Term → Type 0
One p q = Joined 4 said p q

turn : {p q : Term} → One p q → One q p
turn {p} {q} j = turned p q j

chain : {p q r : Term} → One p q → One q r → One p r
chain {p} {q} {r} j k = chained p q r j k

twice : {p q : Term} → One p q → One p p
twice j = chain j (turn j)

under : {p q : Term} (a : ℕ) → One p q → One (p ▸ a) (p ▸ a) → One (p ▸ a) (q ▸ a)
under {p} {q} a j k = beneath p q a j k

three_one : One (only 3 ▸ 1) (only 1 ▸ 3 ▸ 5)
three_one = stated (only 3 ▸ 1) (only 1 ▸ 3 ▸ 5) (Memᴰ.head refl)

three_three : One (only 3) (only 3 ▸ 3)
three_three = stated (only 3) (only 3 ▸ 3) (Memᴰ.tail (Memᴰ.head refl))

one_three : One (only 1 ▸ 3) (only 2 ▸ 0 ▸ 0 ▸ 1 ▸ 4)
one_three = stated (only 1 ▸ 3) (only 2 ▸ 0 ▸ 0 ▸ 1 ▸ 4) (Memᴰ.tail (Memᴰ.tail (Memᴰ.head refl)))

two : One (only 2) (only 0)
two = stated (only 2) (only 0) (Memᴰ.tail (Memᴰ.tail (Memᴰ.tail (Memᴰ.head refl))))

zero_one : One (only 0 ▸ 1) (only 0 ▸ 2)
zero_one = stated (only 0 ▸ 1) (only 0 ▸ 2) (Memᴰ.tail (Memᴰ.tail (Memᴰ.tail (Memᴰ.tail (Memᴰ.head refl)))))

zero_zero_zero : One (only 0) (only 0 ▸ 0 ▸ 0)
zero_zero_zero = stated (only 0) (only 0 ▸ 0 ▸ 0) (Memᴰ.tail (Memᴰ.tail (Memᴰ.tail (Memᴰ.tail (Memᴰ.tail (Memᴰ.head refl))))))

-- as `2.0.0` and `0` denote one node, so do `2.0.0.1.4` and `0.1.4`
shortened : One (only 2 ▸ 0 ▸ 0 ▸ 1 ▸ 4) (only 0 ▸ 1 ▸ 4)
shortened =
    let whole : One (only 2 ▸ 0 ▸ 0 ▸ 1 ▸ 4) (only 2 ▸ 0 ▸ 0 ▸ 1 ▸ 4) = twice (turn one_three) in
    let four = begun (only 2 ▸ 0 ▸ 0 ▸ 1) (only 2 ▸ 0 ▸ 0 ▸ 1 ▸ 4) 4 whole in
    let three = begun (only 2 ▸ 0 ▸ 0) (only 2 ▸ 0 ▸ 0 ▸ 1) 1 four in
    let begin = begun (only 2 ▸ 0) (only 2 ▸ 0 ▸ 0) 0 three in
    under 4 (under 1 (chain (under 0 (under 0 two begin) three) (turn zero_zero_zero)) four) whole

leads_trails : (n a t : ℕ) → edge n a ≡ some t → One (trail_of n ▸ a) (trail_of t)
unfolding trail_of
leads_trails =
    every_edge (λ n a t. One (trail_of n ▸ a) (trail_of t))
    (begun (only 0 ▸ 0) (only 0) 0 (turn zero_zero_zero))
    (twice zero_one)
    (turn zero_one)
    (twice one_three)
    (twice three_one)
    (turn three_three)
    (turn zero_zero_zero)
    (turn (chain one_three shortened))
    (turn three_one)

root_trails : (x : ℕ) → x < 4 → (v : ℕ) → One (only x) (trail_of ((worked v).root x))
unfolding trail_of
root_trails = every_root (λ x n. One (only x) (trail_of n)) (variable 0 (omega arith)) (variable 1 (omega arith)) two (variable 3 (omega arith))

-- a term that denotes a node is joined to its trail
to_trail : (v : ℕ) {xs : List ℕ} → Ended xs → (x n : ℕ) → x < 4 → Leads (worked v) ((worked v).root x) xs n → One (record { var = x; path = xs }) (trail_of n)
to_trail v empty x n lt l = subst (λ (z : ℕ). One (only x) (trail_of z)) (leads_same here l) (root_trails x lt v)
to_trail v (more {xs} a e) x n lt l =
    let b = leads_back xs l in
    let j = to_trail v e x b.0 lt b.1 in
    let k = leads_trails b.0 a n b.2 in
    chain (turn (under a (turn j) (twice k))) k

small : (xs : List ℕ) → AllByRecursion (λ a. a < 32) xs → Small xs
small [] h = end
small (x ∷ xs) h = also h.0 (small xs h.1)

sound : (t : Term) → (t.var < 4) × (length t.path ≤ 8) × AllByRecursion (λ a. a < 32) t.path → Sound 4 t
sound t h = record { declared = h.0; short = h.1; small = small t.path h.2 }

proper_all : (m : Meaning) → AllByRecursion (Proper m 4) said
proper_all m = (
  (sound (only 3 ▸ 1) (omega arith), sound (only 1 ▸ 3 ▸ 5) (omega arith)),
  (
    (sound (only 3) (omega arith), sound (only 3 ▸ 3) (omega arith)),
    (
      (sound (only 1 ▸ 3) (omega arith), sound (only 2 ▸ 0 ▸ 0 ▸ 1 ▸ 4) (omega arith)),
      (
        (sound (only 2) (omega arith), sound (only 0) (omega arith)),
        (
          (sound (only 0 ▸ 1) (omega arith), sound (only 0 ▸ 2) (omega arith)),
          (
            (sound (only 0) (omega arith), sound (only 0 ▸ 0 ▸ 0) (omega arith)),
            (
              (sound (only 0 ▸ 0 ▸ 0 ▸ 1 ▸ 4) (omega arith), sound (only 3) (omega arith)),
              tt,
            ),
          ),
        ),
      ),
    ),
  ),
)

pub holds_what_was_said : (m : Meaning) → Lawful m → Holds m (worked m.top) (apart (only 0 ▸ 0 ▸ 0 ▸ 1 ▸ 4) (only 3) ∷ []) 4 said
holds_what_was_said m lawful = record {
  proper = every_member (Proper m 4) said (proper_all m);
  aparts = refl;
  all = refl;
  joined = λ p q j. joined_in_model m 4 said (worked m.top) (satisfies_all m lawful) j;
  nothing_else = λ p q n d e. chain (to_trail m.top (ended p.path) p.var n d.0 d.1) (turn (to_trail m.top (ended q.path) q.var n e.0 e.1));
  reached = λ n l. (trail_of n, reached m.top n l);
  inside = denotes_inside (worked m.top) (inside m.top);
  values = λ p n d. (model_value_under m 4 said (worked m.top) (satisfies_all m lawful) lawful p n d, λ u h. h m.top top);
}

-- how each node is first mentioned
mention_of : ℕ → Mention
mention_of n = get_or (by_variable 0 ∷ by_variable 1 ∷ by_variable 3 ∷ by_attribute 0 0 ∷ by_attribute 0 1 ∷ by_attribute 1 3 ∷ by_attribute 2 1 ∷ []) n (by_variable 0)

-- none of the variables and attributes mentions n sooner
abbrev Unmentioned : ℕ → Mention → Type 0
Unmentioned n k =
    ((0 ≡ n → Sooner (by_variable 0) k → ⊥) × (1 ≡ n → Sooner (by_variable 1) k → ⊥) × (0 ≡ n → Sooner (by_variable 2) k → ⊥) × (2 ≡ n → Sooner (by_variable 3) k → ⊥))
    × ((3 ≡ n → Sooner (by_attribute 0 0) k → ⊥) × (4 ≡ n → Sooner (by_attribute 0 1) k → ⊥) × (4 ≡ n → Sooner (by_attribute 0 2) k → ⊥) × (5 ≡ n → Sooner (by_attribute 1 3) k → ⊥)
    × (6 ≡ n → Sooner (by_attribute 2 1) k → ⊥) × (2 ≡ n → Sooner (by_attribute 2 3) k → ⊥) × (0 ≡ n → Sooner (by_attribute 3 0) k → ⊥) × (5 ≡ n → Sooner (by_attribute 4 4) k → ⊥)
    × (6 ≡ n → Sooner (by_attribute 5 5) k → ⊥))

first_mention : (v n : ℕ) (k : Mention) → Mentions (worked v) n k → Unmentioned n k → FirstMention (worked v) n k
first_mention v n k m u = record { mentions = m; none_sooner = none_sooner }
  where
    none_sooner : (l : Mention) → Mentions (worked v) n l → Sooner l k → ⊥
    none_sooner (by_variable x) q =
        every_root (λ x r. r ≡ n → Sooner (by_variable x) k → ⊥) u.0.0 u.0.1 u.0.2 u.0.3 x q.0 v q.1
    none_sooner (by_attribute i a) q =
        every_edge (λ i a t. t ≡ n → Sooner (by_attribute i a) k → ⊥) u.1.0 u.1.1 u.1.2 u.1.3 u.1.4 u.1.5 u.1.6 u.1.7 u.1.8 i a n q.1 refl

first_mentions : (v n : ℕ) → n < 7 → FirstMention (worked v) n (mention_of n)
unfolding mention_of
first_mentions v =
    every_node (λ n. FirstMention (worked v) n (mention_of n))
    (first_mention v 0 (by_variable 0) (omega arith, refl) (omega arith))
    (first_mention v 1 (by_variable 1) (omega arith, refl) (omega arith))
    (first_mention v 2 (by_variable 3) (omega arith, refl) (omega arith))
    (first_mention v 3 (by_attribute 0 0) (omega arith, refl) (omega arith))
    (first_mention v 4 (by_attribute 0 1) (omega arith, refl) (omega arith))
    (first_mention v 5 (by_attribute 1 3) (omega arith, refl) (omega arith))
    (first_mention v 6 (by_attribute 2 1) (omega arith, refl) (omega arith))

given_before : (n : ℕ) → n < 7 → GivenBefore n (mention_of n)
unfolding mention_of
given_before = every_node (λ n. GivenBefore n (mention_of n)) tt tt tt (omega arith) (omega arith) (omega arith) (omega arith)

next_later : (n : ℕ) → n < 6 → Sooner (mention_of n) (mention_of (suc n))
unfolding mention_of
next_later n l =
    every_node (λ n. n < 6 → Sooner (mention_of n) (mention_of (suc n)))
    (λ h. omega arith) (λ h. omega arith) (λ h. tt) (λ h. inr (refl, omega arith)) (λ h. inl (omega arith)) (λ h. inl (omega arith)) (λ h. absurd (omega arith)) n (omega arith) l

pub in_order : (v : ℕ) → InOrder (worked v)
in_order v = breadth_first_in_order (worked v) (inside v) (breadth_first_by_firsts (worked v) mention_of (λ n l. next_later n (omega arith)) (first_mentions v) given_before)
