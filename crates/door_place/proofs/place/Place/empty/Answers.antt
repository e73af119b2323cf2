use denote.Param.Send.{arg_send, param_send}
use Rattle.door_place.proofs.Sent.{place_send}
use Rattle.door_place.proofs.place.Place.empty.Goals as goal

pub may_move-requires-send-T : goal.may_move-requires-send-T
may_move-requires-send-T c κs = search (place_send, arg_send, param_send)
