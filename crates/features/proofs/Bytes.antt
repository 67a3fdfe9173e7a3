-- Laws of little-endian bytes, of `along` and of `count`; the length of a listing; a listing determines its graph.
use Rattle.std.proofs.Common.{◌≡◌, ℕ, zero, suc, ◌+◌, ◌*◌, ◌/◌, ◌%◌, ◌^◌, ◌<◌, ◌≤◌, List, [], ◌∷◌, ◌++◌, length, sym, refl, ap, ◌∙◌, subst, append_assoc, append-nil, add-zero, add-suc, mod-eq_of_lt, suc-mul, suc-add, pow-suc, zero-add, zero-mul, arith, length-append}
use mathlib.Core.Option.{Option, some, none}
use native.Mathlib.Nat.{mod-one, div-div-eq-div-mul}
use native.Mathlib.Decide.{dec_lt}
use lib.Arith.{mod-mul}
use Rattle.std.proofs.Math.Nat.{one-le-pow}
use Rattle.std.specs.Int.Digits.{AllBelowBase}
use Rattle.std.specs.Prelude.{All}
use Rattle.std.proofs.lemmas.List.Elements.{All-nil, All-cons, All-append, All-push}
use Rattle.features.specs.Graphs.{Graph, SameGraph}
use Rattle.features.specs.Listing.{little, entry, along, one_if, count, record_of, written}
use Rattle.features.proofs.Paths.{none_without}
use Rattle.features.specs.Bytes.{from_little, WithinLimits, attributes_of}

-- little-endian bytes
pub length_little : (k n : ℕ) → length (little k n) ≡ k
length_little zero n = refl
length_little (suc k) n = ap suc (length_little k (n / 256))

abbrev IsByte : ℕ → Type 0
IsByte b = b < 256

bytes_little : (k n : ℕ) → All IsByte (little k n)
bytes_little zero n = All-nil IsByte
bytes_little (suc k) n = All-cons IsByte (n % 256) (little k (n / 256)) (omega arith) (bytes_little k (n / 256))

pub from_little_little : (k n : ℕ) → from_little (little k n) ≡ n % 256 ^ k
from_little_little zero n = sym (mod-one n)
from_little_little (suc k) n =
    let e = mod-mul n {m = 256 ^ k} {c = 256} (one-le-pow k 256 (omega arith)) (omega arith) in
    let h = from_little_little k (n / 256) in
    let p = ap (λ (z : ℕ). n % z) (pow-suc 256 k) in
    omega (arith, e, h, p)

pub from_little_lt : (bs : List ℕ) → AllBelowBase 256 bs → from_little bs < 256 ^ length bs
from_little_lt [] u = omega arith
from_little_lt (b ∷ bs) u = omega (arith, u.0, from_little_lt bs u.1, pow-suc 256 (length bs))

pub little_from_little : (bs : List ℕ) → AllBelowBase 256 bs → little (length bs) (from_little bs) ≡ bs
little_from_little [] u = refl
little_from_little (b ∷ bs) u =
    let low : (b + 256 * from_little bs) % 256 ≡ b = omega (arith, u.0) in
    let high : (b + 256 * from_little bs) / 256 ≡ from_little bs = omega (arith, u.0) in
    let rest = little_from_little bs u.1 in
    let more = ap (little (length bs)) high in
    cc

pub little_same : (k m n : ℕ) → m < 256 ^ k → n < 256 ^ k → little k m ≡ little k n → m ≡ n
little_same k m n a b e =
    sym (mod-eq_of_lt a) ∙ sym (from_little_little k m) ∙ ap from_little e ∙ from_little_little k n ∙ mod-eq_of_lt b

-- as the library writes and reads them, at the widths of a listing
pub little_4 : (n : ℕ) → little 4 n ≡ (n % 256) ∷ (n / 256 % 256) ∷ (n / 65536 % 256) ∷ (n / 16777216 % 256) ∷ []
little_4 n = simp (div-div-eq-div-mul)

pub little_8 : (n : ℕ) → little 8 n ≡ (n % 256) ∷ (n / 256 % 256) ∷ (n / 65536 % 256) ∷ (n / 16777216 % 256) ∷ (n / 4294967296 % 256) ∷ (n / 1099511627776 % 256) ∷ (n / 281474976710656 % 256) ∷ (n / 72057594037927936 % 256) ∷ []
little_8 n = simp (div-div-eq-div-mul)

pub from_little_2 : (a b : ℕ) → from_little (a ∷ b ∷ []) ≡ a + b * 256
from_little_2 a b = omega arith

pub from_little_4 : (a b c d : ℕ) → from_little (a ∷ b ∷ c ∷ d ∷ []) ≡ a + b * 256 + c * 65536 + d * 16777216
from_little_4 a b c d = omega arith

pub from_little_8 : (a b c d e f g h : ℕ) → from_little (a ∷ b ∷ c ∷ d ∷ e ∷ f ∷ g ∷ h ∷ []) ≡ a + b * 256 + c * 65536 + d * 16777216 + e * 4294967296 + f * 1099511627776 + g * 281474976710656 + h * 72057594037927936
from_little_8 a b c d e f g h = omega arith

-- f at k numbers from a on
pub count_push : (f : ℕ → ℕ) (a k : ℕ) → count f a (suc k) ≡ count f a k + f (a + k)
count_push f a zero = let e = ap f (add-zero a) in omega arith
count_push f a (suc k) = let e = ap f (suc-add a k) in let d = ap f (add-suc a k) in omega (arith, count_push f (suc a) k)

pub along_push : (f : ℕ → List ℕ) (a k : ℕ) → along f a (suc k) ≡ along f a k ++ f (a + k)
along_push f a zero = let e = ap f (add-zero a) in append-nil (f a) ∙ sym e
along_push f a (suc k) =
    let e = ap f (suc-add a k ∙ sym (add-suc a k)) in
    ap (λ (z : List ℕ). f a ++ z) (along_push f (suc a) k ∙ ap (λ (z : List ℕ). along f (suc a) k ++ z) e) ∙ sym (append_assoc (f a) (along f (suc a) k) (f (a + suc k)))

pub count_append : (f : ℕ → ℕ) (a j k : ℕ) → count f a (j + k) ≡ count f a j + count f (a + j) k
count_append f a zero k = simp (zero-add, add-zero)
count_append f a (suc j) k =
    let e = ap (count f a) (suc-add j k) in
    let d = ap (λ (z : ℕ). count f z k) (suc-add a j ∙ sym (add-suc a j)) in
    omega (arith, count_append f (suc a) j k)

pub along_append : (f : ℕ → List ℕ) (a j k : ℕ) → along f a (j + k) ≡ along f a j ++ along f (a + j) k
along_append f a zero k = simp (zero-add, add-zero)
along_append f a (suc j) k =
    let d = ap (λ (z : ℕ). along f z k) (suc-add a j ∙ sym (add-suc a j)) in
    ap (along f a) (suc-add j k)
    ∙ ap (λ (z : List ℕ). f a ++ z) (along_append f (suc a) j k ∙ ap (λ (z : List ℕ). along f (suc a) j ++ z) d)
    ∙ sym (append_assoc (f a) (along f (suc a) j) (along f (a + suc j) k))

-- what stands before and after the part at n
pub along_at : (f : ℕ → List ℕ) (n j : ℕ) → along f 0 (n + suc j) ≡ along f 0 n ++ (f n ++ along f (suc n) j)
along_at f n j = along_append f 0 n (suc j) ∙ ap (λ (z : ℕ). along f 0 n ++ along f z (suc j)) (zero-add n)

pub count_more : (f : ℕ → ℕ) (k : ℕ) → count f 0 (suc k) ≡ count f 0 k + f k
count_more f k = let e = ap f (zero-add k) in omega (arith, count_push f 0 k)

pub along_more : (f : ℕ → List ℕ) (k : ℕ) → along f 0 (suc k) ≡ along f 0 k ++ f k
along_more f k = along_push f 0 k ∙ ap (λ (z : List ℕ). along f 0 k ++ z) (ap f (zero-add k))

pub along_same : (f h : ℕ → List ℕ) (a k : ℕ) → ((n : ℕ) → a ≤ n → n < a + k → f n ≡ h n) → along f a k ≡ along h a k
along_same f h a zero e = refl
along_same f h a (suc k) e =
    let here = e a (omega arith) (omega arith) in
    let rest = along_same f h (suc a) k (λ n l m. e n (omega arith) (omega arith)) in
    cc

pub count_same : (f h : ℕ → ℕ) (a k : ℕ) → ((n : ℕ) → a ≤ n → n < a + k → f n ≡ h n) → count f a k ≡ count h a k
count_same f h a zero e = refl
count_same f h a (suc k) e =
    let here = e a (omega arith) (omega arith) in
    let rest = count_same f h (suc a) k (λ n l m. e n (omega arith) (omega arith)) in
    omega arith

pub count_constant : (f : ℕ → ℕ) (c a k : ℕ) → ((n : ℕ) → a ≤ n → n < a + k → f n ≡ c) → count f a k ≡ k * c
count_constant f c a zero e = omega (arith, zero-mul c)
count_constant f c a (suc k) e = omega (arith, suc-mul k c, e a (omega arith) (omega arith), count_constant f c (suc a) k (λ n l m. e n (omega arith) (omega arith)))

pub count_bound : (f : ℕ → ℕ) (c a k : ℕ) → ((n : ℕ) → a ≤ n → n < a + k → f n ≤ c) → count f a k ≤ k * c
count_bound f c a zero b = omega (arith, zero-mul c)
count_bound f c a (suc k) b = omega (arith, suc-mul k c, b a (omega arith) (omega arith), count_bound f c (suc a) k (λ n l m. b n (omega arith) (omega arith)))

pub length_along : (f : ℕ → List ℕ) (a k : ℕ) → length (along f a k) ≡ count (λ n. length (f n)) a k
length_along f a zero = refl
length_along f a (suc k) = omega (arith, length-append (f a) (along f (suc a) k), length_along f (suc a) k)

-- lists that are equal, cut at equal places
pub append_split : (s t u v : List ℕ) → length s ≡ length t → s ++ u ≡ t ++ v → (s ≡ t) × (u ≡ v)
append_split [] [] u v l e = (refl, e)
append_split [] (y ∷ t) u v l e = absurd (omega (arith, l))
append_split (x ∷ s) [] u v l e = absurd (omega (arith, l))
append_split (x ∷ s) (y ∷ t) u v l e =
    let h : x ≡ y = cc in
    let r : s ++ u ≡ t ++ v = cc in
    let q = append_split s t u v (omega (arith, l)) r in
    let p = q.0 in
    (cc, q.1)

pub append_split_end : (s t u v : List ℕ) → length u ≡ length v → s ++ u ≡ t ++ v → (s ≡ t) × (u ≡ v)
append_split_end s t u v l e = append_split s t u v (omega (arith, l, length-append s u, length-append t v, ap length e)) e

-- of the numbers from a on, the first or a later one
pub first_or_later : (P : ℕ → Type 0) (a k : ℕ) → P a → ((n : ℕ) → suc a ≤ n → n < suc a + k → P n) → (n : ℕ) → a ≤ n → n < a + suc k → P n
first_or_later P a k here later n l m = pick (dec_lt a n)
  where
    pick : Dec (a < n) → P n
    pick (yes h) = later n h (omega arith)
    pick (no h) = subst P (omega arith) here

-- where each part can be told from what follows it, the parts of equal lists are equal
pub along_determines : (f h : ℕ → List ℕ) → ((n : ℕ) (r s : List ℕ) → f n ++ r ≡ h n ++ s → (f n ≡ h n) × (r ≡ s)) → (a k : ℕ) → along f a k ≡ along h a k → (n : ℕ) → a ≤ n → n < a + k → f n ≡ h n
along_determines f h split a zero e = λ n l m. absurd (omega arith)
along_determines f h split a (suc k) e =
    let parts = split a (along f (suc a) k) (along h (suc a) k) e in
    first_or_later (λ n. f n ≡ h n) a k parts.0 (along_determines f h split (suc a) k parts.1)

-- the attributes of a node
length_entry : (a : ℕ) (o : Option ℕ) → length (entry a o) ≡ 3 * one_if o
length_entry a none = refl
length_entry a (some t) = refl

pub length_entries : (e : ℕ → Option ℕ) (a k : ℕ) → length (along (λ b. entry b (e b)) a k) ≡ 3 * count (λ b. one_if (e b)) a k
length_entries e a zero = refl
length_entries e a (suc k) = omega (arith, length-append (entry a (e a)) (along (λ b. entry b (e b)) (suc a) k), length_entry a (e a), length_entries e (suc a) k)

entries_from : (e : ℕ → Option ℕ) (a k x : ℕ) (rest : List ℕ) → along (λ b. entry b (e b)) a k ≡ x ∷ rest → a ≤ x
entries_from e a zero x rest q = let z : ◌≡◌ {A = ℕ} 0 1 = cc in absurd (omega arith)
entries_from e a (suc k) x rest q = by_head (e a) q (entries_from e (suc a) k x rest)
  where
    by_head : (o : Option ℕ) → entry a o ++ along (λ b. entry b (e b)) (suc a) k ≡ x ∷ rest → (along (λ b. entry b (e b)) (suc a) k ≡ x ∷ rest → suc a ≤ x) → a ≤ x
    by_head none q later = let h = later q in omega arith
    by_head (some t) q later = let h : a ≡ x = cc in omega arith

-- targets are written in two bytes
abbrev pub TwoBytes : (ℕ → Option ℕ) → Type 0
TwoBytes e = (a t : ℕ) → e a ≡ some t → t < 256 ^ 2

entries_split : (e f : ℕ → Option ℕ) (a k : ℕ) (o p : Option ℕ) → ((t : ℕ) → o ≡ some t → t < 256 ^ 2) → ((t : ℕ) → p ≡ some t → t < 256 ^ 2) → entry a o ++ along (λ b. entry b (e b)) (suc a) k ≡ entry a p ++ along (λ b. entry b (f b)) (suc a) k → (o ≡ p) × (along (λ b. entry b (e b)) (suc a) k ≡ along (λ b. entry b (f b)) (suc a) k)
entries_split e f a k none none m n q = (refl, q)
entries_split e f a k none (some u) m n q = absurd (omega (arith, entries_from e (suc a) k a _ q))
entries_split e f a k (some t) none m n q = absurd (omega (arith, entries_from f (suc a) k a _ (sym q)))
entries_split e f a k (some t) (some u) m n q =
    let low : t % 256 ≡ u % 256 = cc in
    let high : t / 256 % 256 ≡ u / 256 % 256 = cc in
    let same : t ≡ u = omega (arith, m t refl, n u refl) in
    (ap some same, cc)

pub entries_determine : (e f : ℕ → Option ℕ) → TwoBytes e → TwoBytes f → (a k : ℕ) → along (λ b. entry b (e b)) a k ≡ along (λ b. entry b (f b)) a k → (b : ℕ) → a ≤ b → b < a + k → e b ≡ f b
entries_determine e f m n a zero q = λ b l r. absurd (omega arith)
entries_determine e f m n a (suc k) q =
    let parts = entries_split e f a k (e a) (f a) (m a) (n a) q in
    first_or_later (λ b. e b ≡ f b) a k parts.0 (entries_determine e f m n (suc a) k parts.1)

-- a value, a count and that many attributes
abbrev part : ℕ → ℕ → (ℕ → Option ℕ) → List ℕ
part k v e = little 8 v ++ (count (λ a. one_if (e a)) 0 k ∷ []) ++ along (λ a. entry a (e a)) 0 k

-- a value and a count, told from what follows them
front_split : (v w c d : ℕ) (r s : List ℕ) → little 8 v ++ (c ∷ []) ++ r ≡ little 8 w ++ (d ∷ []) ++ s → (little 8 v ≡ little 8 w) × (c ≡ d) × (r ≡ s)
front_split v w c d r s q =
    let whole = append_split (little 8 v ++ (c ∷ [])) (little 8 w ++ (d ∷ [])) r s refl q in
    let parts = append_split (little 8 v) (little 8 w) (c ∷ []) (d ∷ []) refl whole.0 in
    let last = parts.1 in
    (parts.0, cc, whole.1)

length_part : (k v : ℕ) (e : ℕ → Option ℕ) → length (part k v e) ≡ 8 + 1 + 3 * count (λ a. one_if (e a)) 0 k
length_part k v e = omega (arith, length-append (little 8 v ++ (count (λ a. one_if (e a)) 0 k ∷ [])) (along (λ a. entry a (e a)) 0 k), length_entries e 0 k)

part_split : (k v w : ℕ) (e f : ℕ → Option ℕ) (r s : List ℕ) → part k v e ++ r ≡ part k w f ++ s → (part k v e ≡ part k w f) × (r ≡ s)
part_split k v w e f r s q =
    let front = front_split v w (count (λ a. one_if (e a)) 0 k) (count (λ a. one_if (f a)) 0 k) (along (λ a. entry a (e a)) 0 k ++ r) (along (λ a. entry a (f a)) 0 k ++ s) q in
    let long : length (along (λ a. entry a (e a)) 0 k) ≡ length (along (λ a. entry a (f a)) 0 k) = omega (arith, length_entries e 0 k, length_entries f 0 k, front.1) in
    let rest = append_split (along (λ a. entry a (e a)) 0 k) (along (λ a. entry a (f a)) 0 k) r s long front.2 in
    (λ i. front.0 i ++ (front.1 i ∷ []) ++ rest.0 i, rest.1)

-- what a part says of the node
part_determines : (k v w : ℕ) (e f : ℕ → Option ℕ) → v < 256 ^ 8 → w < 256 ^ 8 → TwoBytes e → TwoBytes f → part k v e ≡ part k w f → (v ≡ w) × ((a : ℕ) → a < k → e a ≡ f a)
part_determines k v w e f m n o p q =
    let front = front_split v w (count (λ a. one_if (e a)) 0 k) (count (λ a. one_if (f a)) 0 k) (along (λ a. entry a (e a)) 0 k) (along (λ a. entry a (f a)) 0 k) q in
    (little_same 8 v w m n front.0, λ a l. entries_determine e f o p 0 k front.2 a (omega arith) (omega arith))

pub length_record : (g : Graph) (n : ℕ) → length (record_of g n) ≡ 8 + 1 + 3 * attributes_of g n
length_record g n = length_part 32 (g.value n) (g.edge n)

pub length_records : (g : Graph) (k : ℕ) → length (along (record_of g) 0 k) ≡ count (λ n. 8 + 1 + 3 * attributes_of g n) 0 k
length_records g k = length_along (record_of g) 0 k ∙ count_same (λ n. length (record_of g n)) (λ n. 8 + 1 + 3 * attributes_of g n) 0 k (λ n l m. length_record g n)

length_roots : (g : Graph) (k : ℕ) → length (along (λ x. little 2 (g.root x)) 0 k) ≡ 2 * k
length_roots g k = omega (arith, length_along (λ x. little 2 (g.root x)) 0 k, count_constant (λ x. length (little 2 (g.root x))) 2 0 k (λ n l m. refl))

pub listing_length : (g : Graph) → length (written g) ≡ count (λ n. 8 + 1 + 3 * attributes_of g n) 0 g.nodes + 2 * g.vars + 8
listing_length g =
    let records : List ℕ = along (record_of g) 0 g.nodes in
    let roots : List ℕ = along (λ x. little 2 (g.root x)) 0 g.vars in
    simp (length-append) (omega (arith, length_records g g.nodes, length_roots g g.vars))

all_along : (P : ℕ → Type 0) (f : ℕ → List ℕ) (a k : ℕ) → ((n : ℕ) → a ≤ n → n < a + k → All P (f n)) → All P (along f a k)
all_along P f a zero u = All-nil P
all_along P f a (suc k) u = All-append P (f a) (along f (suc a) k) (u a (omega arith) (omega arith)) (all_along P f (suc a) k (λ n l m. u n (omega arith) (omega arith)))

one_if_bound : (o : Option ℕ) → one_if o ≤ 1
one_if_bound none = omega arith
one_if_bound (some t) = omega arith

pub attributes_bound : (g : Graph) (n : ℕ) → attributes_of g n ≤ 32
attributes_bound g n = omega (arith, count_bound (λ a. one_if (g.edge n a)) 1 0 32 (λ a l m. one_if_bound (g.edge n a)))

bytes_entry : (a : ℕ) (o : Option ℕ) → a < 256 → All IsByte (entry a o)
bytes_entry a none l = All-nil IsByte
bytes_entry a (some t) l = All-cons IsByte a (little 2 t) l (bytes_little 2 t)

bytes_part : (k v : ℕ) (e : ℕ → Option ℕ) → k < 256 → All IsByte (part k v e)
bytes_part k v e l =
    let few : count (λ a. one_if (e a)) 0 k < 256 = omega (arith, count_bound (λ a. one_if (e a)) 1 0 k (λ a h m. one_if_bound (e a))) in
    All-append IsByte (little 8 v ++ (count (λ a. one_if (e a)) 0 k ∷ [])) (along (λ a. entry a (e a)) 0 k)
    (All-push IsByte (little 8 v) (count (λ a. one_if (e a)) 0 k) (bytes_little 8 v) few)
    (all_along IsByte (λ a. entry a (e a)) 0 k (λ a h m. bytes_entry a (e a) (omega arith)))

bytes_record : (g : Graph) (n : ℕ) → All IsByte (record_of g n)
bytes_record g n = bytes_part 32 (g.value n) (g.edge n) (omega arith)

pub listing_is_bytes : (g : Graph) → All IsByte (written g)
listing_is_bytes g =
    let records : List ℕ = along (record_of g) 0 g.nodes in
    let roots : List ℕ = along (λ x. little 2 (g.root x)) 0 g.vars in
    let both = All-append IsByte records roots (all_along IsByte (record_of g) 0 g.nodes (λ n h m. bytes_record g n)) (all_along IsByte (λ x. little 2 (g.root x)) 0 g.vars (λ x h m. bytes_little 2 (g.root x))) in
    let with_nodes = All-append IsByte (records ++ roots) (little 2 g.nodes) both (bytes_little 2 g.nodes) in
    let with_vars = All-append IsByte (records ++ roots ++ little 2 g.nodes) (little 2 g.vars) with_nodes (bytes_little 2 g.vars) in
    All-append IsByte (records ++ roots ++ little 2 g.nodes ++ little 2 g.vars) (little 4 (length records)) with_vars (bytes_little 4 (length records))

pub listing_bounded : (g : Graph) → WithinLimits g → length (written g) ≤ 27016
listing_bounded g within =
    omega (arith, listing_length g, within.few_nodes, within.few_vars, count_bound (λ n. 8 + 1 + 3 * attributes_of g n) 105 0 g.nodes (λ n l m. omega (arith, attributes_bound g n)))

module _ (g h : Graph) (in_g : WithinLimits g) (in-h : WithinLimits h) (same : written g ≡ written h) where
  -- the parts of a listing, from its end
  parts : (g.nodes ≡ h.nodes) × (g.vars ≡ h.vars) × (along (record_of g) 0 g.nodes ≡ along (record_of h) 0 h.nodes) × (along (λ x. little 2 (g.root x)) 0 g.vars ≡ along (λ x. little 2 (h.root x)) 0 h.vars)
  parts =
      let rg : List ℕ = along (record_of g) 0 g.nodes in
      let rh : List ℕ = along (record_of h) 0 h.nodes in
      let xg : List ℕ = along (λ x. little 2 (g.root x)) 0 g.vars in
      let xh : List ℕ = along (λ x. little 2 (h.root x)) 0 h.vars in
      let no_length = append_split_end (rg ++ xg ++ little 2 g.nodes ++ little 2 g.vars) (rh ++ xh ++ little 2 h.nodes ++ little 2 h.vars) (little 4 (length rg)) (little 4 (length rh)) refl same in
      let no_vars = append_split_end (rg ++ xg ++ little 2 g.nodes) (rh ++ xh ++ little 2 h.nodes) (little 2 g.vars) (little 2 h.vars) refl no_length.0 in
      let no_nodes = append_split_end (rg ++ xg) (rh ++ xh) (little 2 g.nodes) (little 2 h.nodes) refl no_vars.0 in
      let vars = little_same 2 g.vars h.vars (omega (arith, in_g.few_vars)) (omega (arith, in-h.few_vars)) no_vars.1 in
      let nodes = little_same 2 g.nodes h.nodes (omega (arith, in_g.few_nodes)) (omega (arith, in-h.few_nodes)) no_nodes.1 in
      let both = append_split_end rg rh xg xh (omega (arith, length_roots g g.vars, length_roots h h.vars, vars)) no_nodes.0 in
      (nodes, vars, both.0, both.1)

  record_same : (n : ℕ) → n < g.nodes → (g.value n ≡ h.value n) × ((a : ℕ) → a < 32 → g.edge n a ≡ h.edge n a)
  record_same n lt =
      let there : n < h.nodes = omega (arith, parts.0) in
      let records = parts.2 ∙ ap (along (record_of h) 0) (sym parts.0) in
      part_determines 32 (g.value n) (h.value n) (g.edge n) (h.edge n) (in_g.values n lt) (in-h.values n there)
      (λ a t e. omega (arith, in_g.few_nodes, (in_g.edges n a t lt e).1))
      (λ a t e. omega (arith, in-h.few_nodes, (in-h.edges n a t there e).1))
      (along_determines (record_of g) (record_of h) (λ k. part_split 32 (g.value k) (h.value k) (g.edge k) (h.edge k)) 0 g.nodes records n (omega arith) (omega arith))

  root_same : (x : ℕ) → x < g.vars → g.root x ≡ h.root x
  root_same x lt =
      let there : x < h.vars = omega (arith, parts.1) in
      let roots = parts.3 ∙ ap (along (λ x. little 2 (h.root x)) 0) (sym parts.1) in
      let bytes = along_determines (λ x. little 2 (g.root x)) (λ x. little 2 (h.root x)) (λ k r s. append_split (little 2 (g.root k)) (little 2 (h.root k)) r s refl) 0 g.vars roots x (omega arith) (omega arith) in
      little_same 2 (g.root x) (h.root x) (omega (arith, in_g.few_nodes, in_g.roots x lt)) (omega (arith, in-h.few_nodes, in-h.roots x there)) bytes

  edge_same : (n a : ℕ) → n < g.nodes → g.edge n a ≡ h.edge n a
  edge_same n a lt = pick (dec_lt a 32)
    where
      there : n < h.nodes
      there = omega (arith, parts.0)

      pick : Dec (a < 32) → g.edge n a ≡ h.edge n a
      pick (yes l) = (record_same n lt).1 a l
      pick (no l) = none_without (g.edge n a) (λ t e. l (in_g.edges n a t lt e).0) ∙ sym (none_without (h.edge n a) (λ t e. l (in-h.edges n a t there e).0))

  pub bytes_determine_graph : SameGraph g h
  bytes_determine_graph = record { nodes = parts.0; vars = parts.1; values = λ n lt. (record_same n lt).0; edges = edge_same; roots = root_same }
