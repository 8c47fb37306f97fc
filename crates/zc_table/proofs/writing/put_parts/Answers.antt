-- The number, the entries and the counters, each after the one before.
use Rattle.std.proofs.Common.{◌≡◌, ◌∙◌, ℕ, List, ◌++◌, length, sym, ap, append_assoc}
use Rattle.std.specs.List.{flat_map}
use Rattle.zc_wire.specs.Numbers.{u32_bytes}
use Rattle.zc_table.specs.Counts.{regions_of, entries_from}
use Rattle.zc_table.specs.TableBytes.{entry_bytes, table_bytes}
use Rattle.zc_table.proofs.EntryLaws.{entries_used, on_ok}
use Rattle.zc_table.proofs.writing.put_parts.Goals as goal

pub returns-clause-put : goal.returns-clause-put
unfolding table_bytes
returns-clause-put g c =
    let counts : List ℕ = g.T.RefTable.counts c.args.table.now in
    let old : List ℕ = c.args.out.now.items in
    let entries : List ℕ = flat_map entry_bytes (entries_from 0 counts) in
    let counters : List ℕ = flat_map u32_bytes (regions_of counts) in
    let number : c.used.result ≡ length (entries_from 0 counts) = c.used.ensures ∙ sym (entries_used 0 counts) in
    let first : c.put_u32.new.out.items ≡ old ++ u32_bytes (length (entries_from 0 counts)) = c.in_ok-put_u32.ensures.put ∙ ap (λ (k : ℕ). old ++ u32_bytes k) number in
    let second : c.put_entries.new.out.items ≡ (old ++ u32_bytes (length (entries_from 0 counts))) ++ entries = c.in_ok-put_entries.ensures.put ∙ ap (λ (b : List ℕ). b ++ entries) first in
    on_ok c.put_counters.result
    (λ third. third ∙ ap (λ (b : List ℕ). b ++ counters) second
    ∙ append_assoc (old ++ u32_bytes (length (entries_from 0 counts))) entries counters
    ∙ append_assoc old (u32_bytes (length (entries_from 0 counts))) (entries ++ counters))
    c.put_counters.ensures.put
