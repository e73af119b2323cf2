use Rattle.disk_service.proofs.places.Places.take_places.Goals as goal

pub returns-clause-own : goal.returns-clause-own
returns-clause-own c = λ d there. record {
  items = (c.take_last-items.ensures.places _ _ there.items).0;
  clock = (c.take_last-clock.ensures.places _ _ there.clock).0;
  pool = (c.take_last-pool.ensures.places _ _ there.pool).0;
  head = (c.take_last-head.ensures.places _ _ there.head).0;
  totals = (c.take_last-totals.ensures.places _ _ there.totals).0;
  board = (c.take_last-board.ensures.places _ _ there.board).0;
}

pub returns-clause-left : goal.returns-clause-left
returns-clause-left c = λ d there. record {
  items = (c.take_last-items.ensures.places _ _ there.items).1;
  clock = (c.take_last-clock.ensures.places _ _ there.clock).1;
  pool = (c.take_last-pool.ensures.places _ _ there.pool).1;
  head = (c.take_last-head.ensures.places _ _ there.head).1;
  totals = (c.take_last-totals.ensures.places _ _ there.totals).1;
  board = (c.take_last-board.ensures.places _ _ there.board).1;
}

pub returns-clause-fresh : goal.returns-clause-fresh
returns-clause-fresh c = λ fresh. (
  record {
    items = (c.take_last-items.ensures.fresh fresh.items).0;
    clock = (c.take_last-clock.ensures.fresh fresh.clock).0;
    pool = (c.take_last-pool.ensures.fresh fresh.pool).0;
    head = (c.take_last-head.ensures.fresh fresh.head).0;
    totals = (c.take_last-totals.ensures.fresh fresh.totals).0;
    board = (c.take_last-board.ensures.fresh fresh.board).0;
  },
  record {
    items = (c.take_last-items.ensures.fresh fresh.items).1;
    clock = (c.take_last-clock.ensures.fresh fresh.clock).1;
    pool = (c.take_last-pool.ensures.fresh fresh.pool).1;
    head = (c.take_last-head.ensures.fresh fresh.head).1;
    totals = (c.take_last-totals.ensures.fresh fresh.totals).1;
    board = (c.take_last-board.ensures.fresh fresh.board).1;
  },
)
