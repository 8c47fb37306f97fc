-- Each counter after those before it.
use Rattle.std.proofs.Common.{◌≡◌, ◌∙◌, ℕ, ◌*◌, ◌/◌, ◌<◌, ◌≤◌, List, ◌++◌, length, get_or, sym, ap, arith}
use Rattle.std.specs.List.{flat_map}
use Rattle.std.proofs.lemmas.List.{take_all}
use Rattle.zc_wire.specs.Numbers.{u32_bytes}
use Rattle.zc_table.specs.Counts.{region_at, regions_of}
use Rattle.zc_table.proofs.RegionLaws.{region_item, regions_length}
use Rattle.zc_table.proofs.EntryLaws.{counters_more}
use Rattle.zc_table.proofs.writing.put_counters.Goals as goal

pub loop-region-preserved : goal.loop-region-preserved
loop-region-preserved g c =
    let counts : List ℕ = g.T.RefTable.counts c.args.table.now in
    let region : ℕ = c.loop-region.region in
    let within : region < length (regions_of counts) = omega (arith, regions_length counts) in
    let number : 64 * region / 64 ≡ region = omega arith in
    let counter : c.region.result ≡ get_or (regions_of counts) region 0 = c.region.ensures ∙ ap (region_at counts) number ∙ sym (region_item counts region 0 (omega (arith, regions_length counts))) in
    counters_more (regions_of counts) c.args.out.now.items c.loop-region.out.items c.put_u32.new.out.items region 0 within c.loop-region.invariant
    (c.in_ok-put_u32.ensures.put ∙ ap (λ (k : ℕ). c.loop-region.out.items ++ u32_bytes k) counter)

pub returns-clause-put : goal.returns-clause-put
returns-clause-put g c =
    let counts : List ℕ = g.T.RefTable.counts c.args.table.now in
    let all : length (regions_of counts) ≤ c.loop-region.region = omega (arith, regions_length counts) in
    c.loop-region.invariant ∙ ap (λ (counters : List ℕ). c.args.out.now.items ++ flat_map u32_bytes counters) (take_all c.loop-region.region (regions_of counts) all)
