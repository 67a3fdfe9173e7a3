use Rattle.std.proofs.Common.{◌≡◌, ◌*◌, ◌%◌, ◌^◌, map, take, get_or, ◌∙◌, rules}
use Rattle.std.specs.List.{range_with_len}
use Rattle.std.proofs.lemmas.Nat.{one_shl}
use Rattle.std.proofs.lemmas.List.FromFn.{fill_by_all, take-map-range_with_len}
use Rattle.kinds.proofs.types.upward.singles.Goals as goal

pub returns : goal.returns
returns c =
    let made = c.from_fn.ensures.items in
    let each : c.from_fn.result ≡ map (λ t. 2 ^ t) (range_with_len 0 64) =
    fill_by_all (λ t. 2 ^ t) c.from_fn.result 64 0 made.long (λ k h. let r = made.at k 0 h in let e : get_or c.from_fn.result k 0 ≡ (1 * 2 ^ k) % 2 ^ 64 = search rules in e ∙ one_shl k 64 h) in
    let cut : c.truncate.new.self.items ≡ take c.args.count (map (λ t. 2 ^ t) (range_with_len 0 64)) = cc in
    cut ∙ take-map-range_with_len (λ t. 2 ^ t) 0 64 c.args.count c.requires
