use Rattle.any_door.specs.Doors.{id_of}
use Rattle.disk_service.proofs.FirstPlaces.{if-six_ok}
use Rattle.disk_service.proofs.places.Places.put_places.Goals as goal

pub returns-clause-places : goal.returns-clause-places
returns-clause-places c =
    let k = c.args.own.number in
    if-six_ok c.put_last-items.result c.put_last-clock.result c.put_last-pool.result c.put_last-head.result
    c.put_last-totals.result c.put_last-board.result c.and.ensures c.and-2.ensures c.and-3.ensures c.and-4.ensures
    c.and-5.ensures
    (λ items clock pool head totals board. λ d there own. record {
      items = (rw items at c.put_last-items.ensures.places) (id_of d.items) k there.items own.items;
      clock = (rw clock at c.put_last-clock.ensures.places) (id_of d.clock) k there.clock own.clock;
      pool = (rw pool at c.put_last-pool.ensures.places) (id_of d.pool) k there.pool own.pool;
      head = (rw head at c.put_last-head.ensures.places) (id_of d.head) k there.head own.head;
      totals = (rw totals at c.put_last-totals.ensures.places) (id_of d.totals) k there.totals own.totals;
      board = (rw board at c.put_last-board.ensures.places) (id_of d.board) k there.board own.board;
    })

pub returns-clause-put : goal.returns-clause-put
returns-clause-put c =
    if-six_ok c.put_last-items.result c.put_last-clock.result c.put_last-pool.result c.put_last-head.result
    c.put_last-totals.result c.put_last-board.result c.and.ensures c.and-2.ensures c.and-3.ensures c.and-4.ensures
    c.and-5.ensures
    (λ items clock pool head totals board. record {
      items = rw items at c.put_last-items.ensures.put;
      clock = rw clock at c.put_last-clock.ensures.put;
      pool = rw pool at c.put_last-pool.ensures.put;
      head = rw head at c.put_last-head.ensures.put;
      totals = rw totals at c.put_last-totals.ensures.put;
      board = rw board at c.put_last-board.ensures.put;
    })
