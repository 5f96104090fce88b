use Rattle.std.proofs.Common.{◌≤◌, ◌++◌, List, Bool, length, map, sym, ◌∙◌, arith, length-append}
use Rattle.std.proofs.lemmas.List.{length-map}
use Rattle.att_numbers.specs.Types.{Handle}
use Rattle.host_connections.proofs.Skipping.{room_for_skipped}
use Rattle.host_connections.specs.declared.skipped.Skipped.{Skipped}
use Rattle.host_connections.specs.declared.skipped.TheConstants.{MAX_SKIPPED}
use Rattle.host_connections.specs.Skips.{skip_of, skips_by, wants_notification}
use Rattle.host_connections.proofs.skipped.note_values.Goals as goal

pub push-requires : goal.push-requires
push-requires c =
    let a = c.args in
    let wants : Handle → Bool = wants_notification a.table.now.attributes a.pending.now a.row.now a.standing.now in
    let skip : Handle → Skipped = skip_of a.connection in
    let all : List Handle = skips_by wants a.queued a.handles.now in
    let most : length (a.skipped.now.items ++ map skip all) ≤ MAX_SKIPPED =
    omega (arith, c.requires, length-append a.skipped.now.items (map skip all), length-map all skip) in (
      omega arith,
      room_for_skipped wants c.loop-attribute.backlog c.loop-attribute.attribute-index a.handles.now c.loop-attribute-test.true skip
          c.loop-attribute.skipped.items
          (a.skipped.now.items ++ map skip all) c.loop-attribute.invariant MAX_SKIPPED
          (sym c.is_wanted.ensures ∙ c.if-is_wanted.true) c.if-backlog-lt-MAX_BACKLOG.false most,
    )
