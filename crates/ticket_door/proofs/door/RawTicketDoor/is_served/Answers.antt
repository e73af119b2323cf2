use Rattle.std.proofs.Common.{◌≡◌, ◌+◌, ◌*◌, ◌%◌, ◌^◌, ap, sym, ◌∙◌, eqb-true, eq-eqb, true≢false}
use Rattle.std.proofs.Common.{[], length, Some, arith}
use mathlib.Core.Option.{none}
use Rattle.atomic_table.specs.Table.{step}
use Rattle.hoare_law.specs.Sizes.{kinds_of}
use Rattle.door_frame.specs.declared.view.Token.TheVariants.{Ticket}
use Rattle.door_frame.proofs.Steps.{sole_is}
use Rattle.ticket_door.specs.Asked.{TicketDoorId}
use Rattle.ticket_door.proofs.Queue.{Ticket-injective}
use Rattle.ticket_door.proofs.Serving.{polls_ticket_at}
use Rattle.ticket_door.proofs.Turns.{turn_word}
use Rattle.ticket_door.proofs.door.RawTicketDoor.is_served.Goals as goal

pub load-requires : goal.load-requires
load-requires g c =
    let t = c.self.inside.table.shared in
    let D = g.D.MonitorData in
    let a = c.requires.asked in
    let wide = c.self.invariant.words_are in
    let first = ap (λ (d : TicketDoorId). d.first) c.self.view_is ∙ c.requires.first in (
      c.requires.table ∙ ap (λ (d : TicketDoorId). d.door.table) (sym c.self.view_is),
      omega (arith, wide),
      polls_ticket_at t.key.first t.key.places D.rest D.ready (kinds_of D.CONDITIONS D.MESA) _ _ c.args.place a.1 a.0
          (step t.table_id.slots 0 0 0 none) _ _ a.2 first c.self.invariant.most a.4,
    )

pub returns-clause-missed : goal.returns-clause-missed
returns-clause-missed g c = λ no.
    let a = c.requires.asked in
    let turn = c.served_as.ensures
    ∙ turn_word c.args.self.now.first g.J.Counting.first (length a.1) c.args.ticket c.requires.first a.3 in
    (c.load.ensures.2 c.args.place a.0 a.1 a.2).0
    (λ hit. true≢false (sym (eq-eqb c.load.result c.served_as.result (hit ∙ sym turn)) ∙ no))

pub returns-clause-let_in : goal.returns-clause-let_in
returns-clause-let_in g c = λ yes f x is.
    let a = c.requires.asked in
    let q = sole_is c.args.place c.args.place a.0 f (Some (Ticket a.1)) (Some (Ticket x)) [] [] (sym a.2 ∙ is) in
    let n : length a.1 ≡ length x = ap length (Ticket-injective a.1 x q.2) in
    let same : c.load.result ≡ (2 * (g.J.Counting.first + length x)) % 2 ^ 64 =
    eqb-true c.load.result c.served_as.result yes ∙ c.served_as.ensures
    ∙ turn_word c.args.self.now.first g.J.Counting.first (length a.1) c.args.ticket c.requires.first a.3
    ∙ ap (λ m. (2 * (g.J.Counting.first + m)) % 2 ^ 64) n in
    (c.load.ensures.2 c.args.place f x is).1 same
