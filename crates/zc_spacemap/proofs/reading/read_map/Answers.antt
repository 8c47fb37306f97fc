-- What the field holds is the map that stands there.
use Rattle.std.proofs.Common.{ℕ, ◌/◌, arith, sym, subst, Err}
use Rattle.zc_wire.specs.declared.fault.CatalogFault.{CatalogFault}
use Rattle.zc_spacemap.specs.declared.stored.StoredMap.{StoredMap}
use Rattle.zc_spacemap.specs.MapBytes.{IsRead}
use Rattle.zc_spacemap.proofs.MapLaws.{map_found, map_only, map_stands}
use Rattle.zc_spacemap.proofs.reading.read_map.Goals as goal

pub overflow_sub-result : goal.overflow_sub-result
overflow_sub-result c =
    let found = map_found c.args.places c.args.bytes.now c.in-Ok.rest.now c.in-Ok.stored (omega arith) (λ index. omega (arith, c.type_inv.bytes index)) c.in-Ok.ensures in
    omega (arith, found.taken)

pub returns-in-Ok-clause-found : goal.returns-in-Ok-clause-found
returns-in-Ok-clause-found c =
    let found = map_found c.args.places c.args.bytes.now c.in-Ok.rest.now c.in-Ok.stored (omega arith) (λ index. omega (arith, c.type_inv.bytes index)) c.in-Ok.ensures in
    (found.as_long, omega (arith, found.taken), (c.in-Ok.rest.now, found.spelled))

pub returns-in-Ok-clause-only : goal.returns-in-Ok-clause-only
returns-in-Ok-clause-only c = λ stored rest as_long spelled.
    map_only c.args.places c.args.bytes.now c.in-Ok.rest.now rest c.in-Ok.stored stored (omega arith) (λ index. omega (arith, c.type_inv.bytes index)) c.in-Ok.ensures as_long spelled

pub returns-in-Err-clause-only : goal.returns-in-Err-clause-only
returns-in-Err-clause-only c = λ stored rest as_long spelled.
    subst (λ (fault : CatalogFault). IsRead {X = StoredMap × ℕ} (stored, c.args.places / 8) (Err fault)) (sym c.within.ensures)
    (map_stands c.args.places c.args.bytes.now rest stored c.in-Err.fault (omega arith) c.in-Err.ensures as_long spelled)
