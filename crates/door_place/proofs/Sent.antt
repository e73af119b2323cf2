-- A place and a keeper may move to another thread: the meaning of all that they own doesn't depend on the thread.
use denote.Builtin.{u64}
use denote.RattleType.{RattleType}
use denote.Param.{number}
use denote.Param.Send.{IsSend, IsSync, sendable}
use denote.Param.Send.{struct_send, struct_sync, recorded_send, recorded_sync, view_send, view_sync}
use denote.Struct.Declared.{shape}
use Rattle.std.proofs.Crossing.{Arc-send, Vec-send}
use Rattle.std.proofs.option.Option.TheSendSync as options
use Rattle.shelf.specs.contracts.shelf.Shelf as shelf
use Rattle.shelf.proofs.shelf.Shelf.TheSendSync as shelves
use Rattle.shelf.specs.contracts.shelf.Slip as slip
use Rattle.shelf.proofs.shelf.Slip.TheSendSync as slips
use Rattle.shelf.specs.contracts.shelf.Collector as collector
use Rattle.shelf.proofs.shelf.Collector.TheSendSync as collectors
use Rattle.hoare_law.specs.contracts.unconstrained.Unconstrained as unconstrained
use Rattle.hoare_law.specs.contracts.unconstrained.UnconstrainedMonitorData.TheImpl.{ghosts as data_ghosts}
use Rattle.hoare_law.proofs.unconstrained.Unconstrained.TheSendSync as words
use Rattle.door_frame.specs.contracts.waking.ByCaller as caller
use Rattle.door_frame.proofs.waking.ByCaller.TheSendSync as callers
use Rattle.door_frame.specs.contracts.waking.ByCallerParking.TheImpl.{ghosts}
use Rattle.door_frame.specs.contracts.place.Outside as outside
use Rattle.door_frame.proofs.place.Outside.TheSendSync as outsides
use Rattle.baton_door.specs.contracts.step_door.StepDoor as door
use Rattle.baton_door.proofs.step_door.StepDoor.TheSendSync as doors
use Rattle.door_place.specs.contracts.shared.Returned as returned
use Rattle.door_place.specs.contracts.shared.ReturnedShelved.TheImpl.{ghosts as returned_ghosts}
use Rattle.door_place.proofs.shared.Returned.TheSendSync as returns
use Rattle.door_place.specs.contracts.shared.Shared as shared
use Rattle.door_place.specs.contracts.shared.Shared.TheInside as shared-inside
use Rattle.door_place.proofs.shared.Shared.TheSendSync as shares
use Rattle.door_place.proofs.state.State.TheSendSync as states
use Rattle.door_place.specs.contracts.place.Place as place
use Rattle.door_place.specs.contracts.place.Place.TheInside as place-inside
use Rattle.door_place.specs.contracts.keeper.Keeper as keeper
use Rattle.door_place.specs.contracts.keeper.Keeper.TheInside as keeper-inside

abbrev Word : RattleType
Word = unconstrained.the_row u64 (number 1)

word_send : IsSend Word
word_send = words.the_send u64 (number 1) (search sendable)

abbrev Out : RattleType
Out = outside.the_row Word caller.the_row ghosts

out_send : IsSend Out
out_send = outsides.the_send Word caller.the_row ghosts word_send callers.the_send

abbrev Door : RattleType
Door = door.the_row Word (data_ghosts u64 (number 1))

door_sync : IsSync Door
door_sync = doors.the_sync Word (data_ghosts u64 (number 1)) word_send

-- a `&` to a shelf is a `&` to its table
shelf_sync : IsSync (shelf.the_row returned.the_row Door returned_ghosts)
shelf_sync = shelves.the_sync returned.the_row Door returned_ghosts returns.the_send

shared_sync : IsSync shared.the_row
shared_sync = view_sync shared-inside.the_row _ _ _ _
    (recorded_sync shared-inside.the_field.row _ _ shared-inside.the_type.to_one
    (struct_sync (shape shared-inside.the_type) (door_sync, (shelf_sync, tt))))

abbrev Slip : RattleType
Slip = slip.the_row returned.the_row Door returned_ghosts

slip_send : IsSend Slip
slip_send = slips.the_send returned.the_row Door returned_ghosts returns.the_send

collector_send : IsSend (collector.the_row returned.the_row Door returned_ghosts)
collector_send = collectors.the_send returned.the_row Door returned_ghosts returns.the_send

pub place_send : IsSend place.the_row
place_send = view_send place-inside.the_row _ _ _ _
    (recorded_send place-inside.the_field.row _ _ place-inside.the_type.to_one
    (struct_send (shape place-inside.the_type) (
      Arc-send _ shares.the_send shared_sync,
      (
        states.the_field_send,
        (options.the_field_send Slip slip_send, tt),
      ),
    )))

pub keeper_send : IsSend keeper.the_row
keeper_send = view_send keeper-inside.the_row _ _ _ _
    (recorded_send keeper-inside.the_field.row _ _ keeper-inside.the_type.to_one
    (struct_send (shape keeper-inside.the_type) (
      Arc-send _ shares.the_send shared_sync,
      (
        Vec-send _ out_send,
        (collector_send, tt),
      ),
    )))
