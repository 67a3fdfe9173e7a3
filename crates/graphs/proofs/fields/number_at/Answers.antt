use Rattle.std.proofs.Common.{◌≡◌, ℕ, ◌+◌, ◌-◌, ◌^◌, ◌<◌, get_or, take, drop, sym, ap, ◌∙◌, subst, arith, length-take}
use Rattle.features.specs.Listing.{little}
use Rattle.features.specs.Bytes.{from_little}
use Rattle.graphs.proofs.LowestFirst.{zeros, number_padded, little_field, field_small}
use Rattle.graphs.proofs.fields.number_at.Goals as goal

pub returns : goal.returns
returns g c =
    let bs = c.args.bytes.now in
    let p = c.args.place in
    let width = g.row.WIDTH in
    let between : p + width - p ≡ width = omega arith in
    let value =
    number_padded width c.copy_from_slice.new.self c.from_le_bytes.result (omega (arith, c.copy_from_slice.ensures.len, length-take width zeros, c.requires.width)) c.requires.width c.from_le_bytes.ensures
    ∙ ap from_little c.copy_from_slice.ensures.after ∙ ap (λ (z : ℕ). from_little (take z (drop p bs))) between in
    let typed : (i : ℕ) → get_or bs i 0 < 256 = λ i. omega (arith, c.type_inv.bytes i) in
    record {
      value = value;
      small = subst (λ (z : ℕ). z < 256 ^ width) (sym value) (field_small bs typed p width c.requires.fits);
      bytes = ap (little width) value ∙ little_field bs typed p width c.requires.fits;
    }
