-- Following the mentions of a number back.
use Rattle.std.proofs.Common.{◌≡◌, ℕ, zero, suc, ◌+◌, ◌<◌, List, [], ◌∷◌, ◌++◌, reverse, length, get_or, take, drop, set, vec_items, vec_len, sym, refl, ap, ◌∙◌, subst, append_assoc, append-nil, arith}
use Rattle.std.proofs.Math.Seq.{set-append_seam, take-append_seam, drop-append_seam}
use Rattle.std.proofs.lemmas.Grind.{reverse_onto}
use Rattle.std.proofs.lemmas.List.{get_or_read, drop_more, length-reverse, reverse-reverse}
use Rattle.features.specs.Terms.{Term, only, ◌▸◌}
use Rattle.features.specs.Graphs.{Graph}
use Rattle.features.specs.Order.{Trail}
use Rattle.features.specs.Numbering.{Mention, by_variable, by_attribute, FirstMention}
use Rattle.features.proofs.Numbering.{trails_by_first_mention}
use Rattle.numbering.specs.declared.numbers.Listed.{Listed}
use Rattle.numbering.specs.declared.numbers.Numbers.{Numbers}
use Rattle.numbering.specs.Given.{blank, ord, num, given, meaning}
use Rattle.numbering.specs.Frontier.{Numbered, in_numbers}
use Rattle.numbering.specs.Traces.{Traced, at_variable, at_attribute}
use Rattle.numbering.proofs.Complete.{inside_numbers}

module _ (n : Numbers) where
  -- where the mention is by an attribute, the term ends in it
  pub trace_back : {k : ℕ} {t : Term} (i a : ℕ) → given n k ≡ by_attribute i a → Traced n k t → (s : Term) × Traced n i s × (t ≡ s ▸ a)
  trace_back i a e (at_variable {x = x} f) = absurd (let p = sym f ∙ e in let z : ◌≡◌ {A = ℕ} 0 1 = cc p in omega arith)
  trace_back i a e (at_attribute {i = j} {a = b} {t = s} f r) =
      let p : by_attribute j b ≡ by_attribute i a = sym f ∙ e in
      let j_is : j ≡ i = cc p in
      let b_is : b ≡ a = cc p in
      (s, subst (λ (z : ℕ). Traced n z s) j_is r, ap (λ (z : ℕ). s ▸ z) b_is)

  -- where it is by a variable, the term is that
  pub trace_end : {k : ℕ} {t : Term} (x : ℕ) → given n k ≡ by_variable x → Traced n k t → t ≡ only x
  trace_end x e (at_variable {x = y} f) = let p : by_variable y ≡ by_variable x = sym f ∙ e in let q : y ≡ x = cc p in ap only q
  trace_end x e (at_attribute f r) = absurd (let p = sym f ∙ e in let z : ◌≡◌ {A = ℕ} 0 1 = cc p in omega arith)

  module _ (g : Graph) (of : Numbered g n) where
    first_is : (k : ℕ) (m : Mention) → k < vec_len n.listed → given n k ≡ m → FirstMention (in_numbers g n) k m
    first_is k m lt e = subst (λ (z : Mention). FirstMention (in_numbers g n) k z) e (of.first k lt)

    pub giver_before : (k i a : ℕ) → k < vec_len n.listed → given n k ≡ by_attribute i a → i < k
    giver_before k i a lt e = of.breadth_first.numbered_before k i a lt (first_is k (by_attribute i a) lt e)

    pub traced_trail : {k : ℕ} {t : Term} → k < vec_len n.listed → Traced n k t → Trail (in_numbers g n) k t
    traced_trail {k} lt (at_variable {x = x} e) = (trails_by_first_mention (in_numbers g n) (inside_numbers g (vec_len n.listed) (ord n) (num n) of.numbering) of.in_order).at_variable k x lt (first_is k (by_variable x) lt e)
    traced_trail {k} lt (at_attribute {i = i} {a = a} {t = t} e r) =
        let h = giver_before k i a lt e in
        (trails_by_first_mention (in_numbers g n) (inside_numbers g (vec_len n.listed) (ord n) (num n) of.numbering) of.in_order).at_attribute k i a t lt (first_is k (by_attribute i a) lt e) (traced_trail (omega arith) r)

    traced_below : (b k : ℕ) → k < b → k < vec_len n.listed → (t : Term) × Traced n k t
    traced_below zero k less lt = absurd (omega arith)
    traced_below (suc b) k less lt = by_mention (given n k) refl (λ i h. traced_below b i (omega arith) (omega arith))
      where
        by_mention : (m : Mention) → given n k ≡ m → ((i : ℕ) → i < k → (t : Term) × Traced n i t) → (t : Term) × Traced n k t
        by_mention (by_variable x) e before = (only x, at_variable e)
        by_mention (by_attribute i a) e before = let r = before i (giver_before k i a lt e) in (r.0 ▸ a, at_attribute e r.1)

    pub traced : (k : ℕ) → k < vec_len n.listed → (t : Term) × Traced n k t
    traced k lt = traced_below (suc k) k (omega arith) lt

-- so far back as number j, the attributes passed are rest
pub record Passed (n : Numbers) (t : Term) (j : ℕ) (rest : List ℕ) : Type 0 where
  pub front : Term
  pub traced : Traced n j front
  pub var : front.var ≡ t.var
  pub path : front.path ++ rest ≡ t.path

pub none_passed : (n : Numbers) (t : Term) (k : ℕ) → Traced n k t → Passed n t k []
none_passed n t k r = record { front = t; traced = r; var = refl; path = append-nil t.path }

module _ (n : Numbers) (t : Term) (j : ℕ) (rest : List ℕ) (at : Passed n t j rest) where
  pub pass : (i a : ℕ) → given n j ≡ by_attribute i a → Passed n t i (a ∷ rest)
  pass i a e =
      let b = trace_back n i a e at.traced in
      record {
        front = b.0;
        traced = b.1;
        var = ap (λ (z : Term). z.var) (sym b.2) ∙ at.var;
        path = sym (append_assoc b.0.path (a ∷ []) rest) ∙ ap (λ (z : Term). z.path ++ rest) (sym b.2) ∙ at.path;
      }

  pub passed_all : (x : ℕ) → given n j ≡ by_variable x → (x ≡ t.var) × (rest ≡ t.path)
  passed_all x e =
      let f = trace_end n x e at.traced in
      (ap (λ (z : Term). z.var) (sym f) ∙ at.var, ap (λ (z : Term). z.path ++ rest) (sym f) ∙ at.path)

-- what the mention read from memory says
pub given_is : (n : Numbers) (k : ℕ) (l : Listed) → k < vec_len n.listed → l ≡ get_or (vec_items n.listed) k l → given n k ≡ meaning l.mention
given_is n k l lt read =
    let short : k < length (vec_items n.listed) = omega (arith, n.listed.ok.0) in
    ap (λ (z : Listed). meaning z.mention) (sym (get_or_read (vec_items n.listed) k l short read blank))

-- one attribute more is written after those that were
pub written_more : (old rest : List ℕ) (n a : ℕ) → length rest ≡ n → n < length old → set (reverse rest ++ drop n old) n a ≡ reverse (a ∷ rest) ++ drop (n + 1) old
written_more old rest n a long lt =
    let seam : length (reverse rest) ≡ n = length-reverse rest ∙ long in
    ap (λ (z : List ℕ). set (reverse rest ++ z) n a) (drop_more old n 0 lt)
    ∙ subst (λ (z : ℕ). set (reverse rest ++ (get_or old n 0 ∷ drop (n + 1) old)) z a ≡ reverse rest ++ (a ∷ drop (n + 1) old)) seam
    (set-append_seam (reverse rest) (get_or old n 0) (drop (n + 1) old) a)
    ∙ sym (append_assoc (reverse rest) (a ∷ []) (drop (n + 1) old)) ∙ ap (λ (z : List ℕ). z ++ drop (n + 1) old) (sym (reverse_onto rest a []))

-- what was written, turned round
pub written_all : (old rest out : List ℕ) (n : ℕ) → length rest ≡ n → out ≡ reverse rest ++ drop n old → reverse (take n out) ++ drop n out ≡ rest ++ drop n old
written_all old rest out n long is =
    let seam : length (reverse rest) ≡ n = length-reverse rest ∙ long in
    let front : take n out ≡ reverse rest = ap (take n) is ∙ subst (λ (z : ℕ). take z (reverse rest ++ drop n old) ≡ reverse rest) seam (take-append_seam (reverse rest) (drop n old)) in
    let back : drop n out ≡ drop n old = ap (drop n) is ∙ subst (λ (z : ℕ). drop z (reverse rest ++ drop n old) ≡ drop n old) seam (drop-append_seam (reverse rest) (drop n old)) in
    ap (λ (z : List ℕ). reverse z ++ drop n out) front ∙ ap (λ (z : List ℕ). z ++ drop n out) (reverse-reverse rest) ∙ ap (λ (z : List ℕ). rest ++ z) back
