-- Several parts written one after another, and what the buffer has when its loan ends.
use Rattle.std.proofs.Common.{◌≡◌, ℕ, List, [], ◌++◌, length, drop, sym, refl, ap, ◌∙◌, subst, ap₂, append_assoc, append-nil, arith, length-append, take-append-drop}
use Rattle.std.proofs.lemmas.List.{drop-drop}
use Rattle.buffers.specs.Writing.{so_far, left, Wrote}
use Rattle.buffers.specs.declared.Writer.{Writer}

pub wrote_none : (w : Writer) → Wrote [] w w
wrote_none w = record { more = sym (append-nil (so_far w)); rest = refl; room = omega arith; same_buffer = refl }

pub wrote_append : {a b : List ℕ} {x y z : Writer} → Wrote a x y → Wrote b y z → Wrote (a ++ b) x z
wrote_append {a} {b} {x} {y} {z} p q = record {
  more = q.more ∙ ap (λ (s : List ℕ). s ++ b) p.more ∙ append_assoc (so_far x) a b;
  rest =
      q.rest ∙ ap (drop (length b)) p.rest ∙ drop-drop (length b) (length a) (left x)
      ∙ ap (λ (k : ℕ). drop k (left x)) (sym (length-append a b));
  room = omega (arith, p.room, q.room, length-append a b);
  same_buffer = q.same_buffer ∙ p.same_buffer;
}

pub wrote_same : {a b : List ℕ} {x y : Writer} → a ≡ b → Wrote a x y → Wrote b x y
wrote_same {x = x} {y = y} e p = subst (λ (bytes : List ℕ). Wrote bytes x y) e p

whole : (w : Writer) → so_far w ++ left w ≡ w.buffer.now
unfolding so_far left
whole w = take-append-drop w.at w.buffer.now

-- the bytes that were written, from a writer that had written nothing
module _ {bytes : List ℕ} (x y : Writer) (nothing : so_far x ≡ []) (w : Wrote bytes x y) where
  pub written_is : so_far y ≡ bytes
  written_is = w.more ∙ ap (λ (s : List ℕ). s ++ bytes) nothing

  pub buffer_is : {before after : List ℕ} → left x ≡ before → after ≡ y.buffer.now → after ≡ bytes ++ drop (length bytes) before
  buffer_is all end = end ∙ sym (whole y) ∙ ap₂ (λ (s t : List ℕ). s ++ t) written_is (w.rest ∙ ap (drop (length bytes)) all)
