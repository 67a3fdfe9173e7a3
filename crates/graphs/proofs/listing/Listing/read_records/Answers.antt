use Rattle.std.proofs.Common.{◌≡◌, ℕ, ◌+◌, ◌*◌, ◌≤◌, length, take, drop, sym, refl, ap, ◌∙◌, add-one, arith, length-take, length-drop, drop-drop}
use Rattle.std.proofs.lemmas.List.{take_rest}
use Rattle.graphs.specs.Listings.{count_at, start, record_length}
use Rattle.graphs.proofs.Parts.{rising_there, row_here}
use Rattle.graphs.proofs.Whole.{rows_none, rows_more, right_more}
use Rattle.graphs.proofs.listing.Listing.read_records.Goals as goal

pub loop-node-init : goal.loop-node-init
loop-node-init g c =
    let m = g.K.Kind.meaning c.args.self.now.kind.now in
    record {
      below = record { counted = c.args.self.now.counted.counted; records = λ j l. absurd (omega arith) };
      within = omega arith;
      rest = refl;
      many = c.clear.ensures.len;
      room = c.clear.ensures.capacity;
      rows = rows_none m c.args.self.now.bytes.now c.clear.new.self.items;
    }

pub row-requires : goal.row-requires
row-requires g c =
    let bs = c.args.self.now.bytes.now in
    let s = start bs c.loop-node.node in
    let of = c.args.self.now.counted in
    let new = c.in_ok-record.ensures in
    let full : s + record_length bs s ≤ length bs = omega (arith, new.0.fits, of.counted.whole) in
    rising_there bs s c.in_ok-record.record.bytes.now full new.1 new.0.rising

pub loop-node-preserved : goal.loop-node-preserved
loop-node-preserved g c =
    let m = g.K.Kind.meaning c.args.self.now.kind.now in
    let bs = c.args.self.now.bytes.now in
    let of = c.args.self.now.counted in
    let k = c.loop-node.node in
    let s = start bs k in
    let inv = c.loop-node.invariant in
    let new = c.in_ok-record.ensures in
    let r = c.in_ok-record.record.bytes.now in
    let fits = new.0.fits in
    let full : s + record_length bs s ≤ length bs = omega (arith, fits, of.counted.whole) in
    let long : length r ≡ record_length bs s = omega (arith, full, ap length new.1, length-take (record_length bs s) (drop s bs), length-drop s bs) in
    let next : s + length r ≡ start bs (k + 1) = (let sum : s + length r ≡ s + 9 + 3 * count_at bs s = omega (arith, long) in sum ∙ ap (start bs) (sym (add-one k))) in
    record {
      below = right_more m bs k inv.below new.0;
      within = omega (arith, next, long, fits, of.place);
      rest = take_rest c.loop-node.rest.now (length r) ∙ ap (drop (length r)) inv.rest ∙ drop-drop (length r) s (take c.args.self.now.trailer.place bs) ∙ ap (λ (z : ℕ). drop z (take c.args.self.now.trailer.place bs)) next;
      many = c.push_reserved.ensures.len ∙ ap (λ (z : ℕ). z + 1) inv.many;
      room = c.push_reserved.ensures.capacity ∙ inv.room;
      rows = rows_more m bs c.loop-node.rows.items c.push_reserved.new.self.items k c.row.result (sym c.loop-node.rows.ok.0 ∙ inv.many) c.push_reserved.ensures.items new.0 (row_here bs s r full new.1 c.row.result c.row.ensures) inv.rows;
    }
