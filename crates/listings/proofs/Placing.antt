-- One part put after another, and parts put at the front of a buffer.
use Rattle.std.proofs.Common.{◌≡◌, ℕ, suc, ◌+◌, ◌-◌, ◌<◌, ◌≤◌, List, [], ◌++◌, length, sym, ap, ◌∙◌, add-one, arith, length-append}
use Rattle.buffers.specs.Writing.{so_far, left, Wrote}
use Rattle.buffers.specs.declared.Writer.{Writer}
use Rattle.buffers.proofs.Runs.{wrote_append, wrote_same, buffer_is}
use Rattle.features.specs.Listing.{along}
use Rattle.features.proofs.Bytes.{along_at, along_more}
use Rattle.listings.specs.Buffers.{Fitted}

-- one more of several parts
pub wrote_more : (f : ℕ → List ℕ) (i : ℕ) {x y z : Writer} → Wrote (along f 0 i) x y → Wrote (f i) y z → Wrote (along f 0 (i + 1)) x z
wrote_more f i p q = wrote_same (sym (ap (along f 0) (add-one i) ∙ along_more f i)) (wrote_append p q)

pub room_for_more : (f : ℕ → List ℕ) (i k : ℕ) → i < k → length (along f 0 i) + length (f i) ≤ length (along f 0 k)
room_for_more f i k l =
    let e : k ≡ i + suc (k - suc i) = omega arith in
    let rest : List ℕ = along f (suc i) (k - suc i) in
    let whole = ap length (ap (along f 0) e ∙ along_at f i (k - suc i)) in
    omega (arith, whole, length-append (along f 0 i) (f i ++ rest), length-append (f i) rest)

pub room_for_one : (f : ℕ → List ℕ) (i k n : ℕ) → i < k → length (f i) ≡ n → n ≤ length (along f 0 k)
room_for_one f i k n l e = omega (arith, room_for_more f i k l)

-- put at the front of the buffer that a writer was given
pub fitted : {bytes before after : List ℕ} (n : ℕ) (x y : Writer) → so_far x ≡ [] → left x ≡ before → Wrote bytes x y → after ≡ y.buffer.now → n ≡ length bytes → Fitted bytes before after n
fitted n x y nothing all w end size = record {
  size = size;
  enough = omega (arith, w.room, ap length all);
  front = buffer_is x y nothing w all end;
}
