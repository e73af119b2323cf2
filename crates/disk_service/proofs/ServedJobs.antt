-- What the workers did, all together: one worker more, and all of it in the histories of the doors.
use Rattle.std.proofs.Common.{ℕ, ◌≡◌, ◌+◌, ◌<◌, Bool, true, false, List, [], ◌∷◌, ◌++◌, length, Option, Some}
use Rattle.std.proofs.Common.{Result, Ok, Err, ap, refl, sym, ◌∙◌, arith}
use Rattle.std.specs.Prelude.{slice_index_or, ◌&&◌, ◌↔◌, IfOk, IsOk}
use Rattle.std.specs.List.{Contains}
use Rattle.std.proofs.lemmas.List.{get_or_append_left, length-append}
use Rattle.std.proofs.lemmas.List.Elements.{Contains-push, All-contains}
use Rattle.hoare_law.proofs.Tests.{both_true}
use Rattle.door_frame.specs.Places.{DoorId, PlaceOut, IsInHistory}
use Rattle.disk_jobs.specs.declared.fault.ServiceFault.{ServiceFault}
use Rattle.disk_jobs.specs.declared.report.Report.{Report}
use Rattle.disk_jobs.specs.Gatherings.{Agrees}
use Rattle.disk_jobs.specs.JobLists.{JobList}
use Rattle.disk_jobs.specs.Reports.{account_of}
use Rattle.disk_jobs.specs.Services.{Account, Served, service}
use Rattle.disk_service.specs.declared.data.Totals.{Totals}
use Rattle.disk_service.specs.declared.data.Board.{Board}
use Rattle.disk_service.specs.declared.doors.Doors.{Doors}
use Rattle.disk_service.specs.declared.places.Places.{Places}
use Rattle.disk_service.specs.declared.thread_places.ThreadPlaces.{ThreadPlaces}
use Rattle.disk_service.specs.Doors.{Terms, AreSized}
use Rattle.disk_service.specs.ServedJobs.{AreAmong, ArePut, ClosesWith, IsWhole, HasWorked, AreDoneBy, nobody}
use Rattle.disk_service.specs.ServedJobs.{one_more, Histories, HaveThread, AreClosed, IsServed}

-- what was among the elements still is, with one more at the end
contains-more : {X : Type 0} (xs ys : List X) (x y : X) → ys ≡ xs ++ x ∷ [] → Contains xs y → Contains ys y
contains-more {X = X} xs ys x y is c =
    let l : c.0 < length xs = c.1 in
    let long : length ys ≡ length xs + 1 = ap length is ∙ length-append xs (x ∷ []) in
    (c.0, omega arith, ap (λ (zs : List X). slice_index_or zs c.0 y) is ∙ get_or_append_left xs (x ∷ []) y c.0 l ∙ c.2)

contains-last : {X : Type 0} (xs ys : List X) (x : X) → ys ≡ xs ++ x ∷ [] → Contains ys x
contains-last xs ys x is = rw is (Contains-push xs x)

-- places that were there are still there after a thread's were put back
pub among-more : (own : ThreadPlaces) (before after : Places) → ArePut own before after → (q : ThreadPlaces)
    → AreAmong before q → AreAmong after q
among-more own before after put q among = record {
  items = contains-more _ _ _ _ put.items among.items;
  clock = contains-more _ _ _ _ put.clock among.clock;
  pool = contains-more _ _ _ _ put.pool among.pool;
  head = contains-more _ _ _ _ put.head among.head;
  totals = contains-more _ _ _ _ put.totals among.totals;
  board = contains-more _ _ _ _ put.board among.board;
}

-- and so are the thread's
pub among-last : (own : ThreadPlaces) (before after : Places) → ArePut own before after → AreAmong after own
among-last own before after put = record {
  items = contains-last _ _ _ put.items;
  clock = contains-last _ _ _ put.clock;
  pool = contains-last _ _ _ put.pool;
  head = contains-last _ _ _ put.head;
  totals = contains-last _ _ _ put.totals;
  board = contains-last _ _ _ put.board;
}

-- the same by places of which more is known
pub AreDoneBy-weaker : (P Q : ThreadPlaces → Type 0) → ((q : ThreadPlaces) → P q → Q q) → (n : ℕ) (jobs : List Served)
    → AreDoneBy P n jobs → AreDoneBy Q n jobs
AreDoneBy-weaker P Q weaker n jobs nobody = nobody
AreDoneBy-weaker P Q weaker n jobs (one_more k m before own all q others worked p next are) =
    one_more k n before own jobs q (AreDoneBy-weaker P Q weaker k before others) worked (weaker q p) next are

-- what was done still is, after a thread's places were put with the others
pub done-kept : (n : ℕ) (own : ThreadPlaces) (before after : Places) (jobs : List Served) → ArePut own before after
    → AreDoneBy (AreAmong before) n jobs → AreDoneBy (AreAmong after) n jobs
done-kept n own before after jobs put done =
    AreDoneBy-weaker (AreAmong before) (AreAmong after) (among-more own before after put) n jobs done

-- the same after a second thread's were
pub done-still : (n m : ℕ) (first second : ThreadPlaces) (before between after : Places) (jobs : List Served) → n ≡ m
    → ArePut first before between → ArePut second between after → AreDoneBy (AreAmong before) n jobs
    → AreDoneBy (AreAmong after) m jobs
done-still n m first second before between after jobs same put last done =
    rw (sym same) (done-kept n second between after jobs last (done-kept n first before between jobs put done))

-- no worker has done anything, and there is no job done
pub none-done : (P : ThreadPlaces → Type 0) (n : ℕ) (jobs : List Served) → n ≡ 0 → jobs ≡ [] → AreDoneBy P n jobs
none-done P n jobs zero none = rw (zero, none) nobody

-- one worker more is joined, and its places and results are put with the others
pub done-more : (n : ℕ) (own : ThreadPlaces) (before after : Places) (kept results all : List Served) (a b : Bool)
    → ArePut own before after → (b ≡ true → HasWorked n kept own) → (a ≡ true → AreDoneBy (AreAmong before) n results)
    → all ≡ results ++ kept → (a && b) ≡ true → AreDoneBy (AreAmong after) (n + 1) all
done-more n own before after kept results all a b put worked done are both =
    let ab : (a ≡ true) × (b ≡ true) = both_true a b both in
    one_more n (n + 1) results kept all own (done-kept n own before after results put (done ab.0))
    (worked ab.1) (among-last own before after put) refl are

-- the history of a door that was closed
whole : {D : Type 0} (t : Terms D) (door : DoorId) (os : List (PlaceOut D)) (s : D) (n : ℕ) → door.places ≡ n
    → (closes : ClosesWith t door os s) → IsWhole t n closes.history
whole t door os s n sized closes = record { sized = rw sized at closes.sized; stands = closes.stands }

-- what the workers did, in the histories of the doors that were closed with their places
pub all-served : (j : JobList) (d : Doors) (p : Places) (totals : Option Totals) (t : Totals) (board : Board)
    (jobs : List Served) (r : Account) → AreSized d (j.workers + 2) → AreClosed d p totals board → totals ≡ Some t
    → AreDoneBy (AreAmong p) j.workers jobs → Agrees j.cylinders jobs t.jobs t.sum board.done
    → r ≡ service j.cylinders → IsServed j r
all-served j d p totals t board jobs r sized closed some done agrees reported =
    let h : Histories = record {
      items = closed.at_items.closes.history;
      clock = closed.at_clock.closes.history;
      pool = closed.at_pool.closes.history;
      head = closed.at_head.closes.history;
      totals = closed.at_totals.history;
      board = closed.at_board.history;
    } in
    let counted : length j.cylinders ≡ r.jobs = sym (ap (λ (a : Account). a.jobs) reported) in
    let jobs_are : r.jobs ≡ t.jobs = ap (λ (a : Account). a.jobs) reported ∙ sym agrees.jobs_are in
    let sum_is : r.sum ≡ t.sum = ap (λ (a : Account). a.sum) reported ∙ sym agrees.sum_is in
    record {
      histories = h;
      items = whole _ _ _ _ _ sized.items closed.at_items.closes;
      clock = whole _ _ _ _ _ sized.clock closed.at_clock.closes;
      pool = whole _ _ _ _ _ sized.pool closed.at_pool.closes;
      head = whole _ _ _ _ _ sized.head closed.at_head.closes;
      totals = record {
        whole = whole _ _ _ _ _ sized.totals closed.at_totals;
        latest = rw (jobs_are, sum_is) (sym some ∙ closed.at_totals.latest);
      };
      shared = closed.shared;
      board = record {
        whole = whole _ _ _ _ _ sized.board closed.at_board;
        latest = closed.at_board.latest;
      };
      noted = sym (ap (λ (b : Board). b.done) closed.value) ∙ agrees.done_are ∙ counted;
      jobs = jobs;
      done = AreDoneBy-weaker (AreAmong p) (HaveThread h) (λ q among. record {
        items = All-contains (IsInHistory h.items) _ _ closed.at_items.closes.fronts among.items;
        clock = All-contains (IsInHistory h.clock) _ _ closed.at_clock.closes.fronts among.clock;
        pool = All-contains (IsInHistory h.pool) _ _ closed.at_pool.closes.fronts among.pool;
        head = All-contains (IsInHistory h.head) _ _ closed.at_head.closes.fronts among.head;
        totals = All-contains (IsInHistory h.totals) _ _ closed.at_totals.fronts among.totals;
        board = All-contains (IsInHistory h.board) _ _ closed.at_board.fronts among.board;
      }) j.workers jobs done;
      each_once = agrees.each_once;
    }

-- the same of a report that was gathered, if there is one
pub gathered : (j : JobList) (d : Doors) (p : Places) (totals : Option Totals) (t : Totals) (board : Board)
    (jobs : List Served) (r : Result Report ServiceFault) → AreSized d (j.workers + 2) → AreClosed d p totals board
    → totals ≡ Some t → AreDoneBy (AreAmong p) j.workers jobs
    → (IsOk r ↔ Agrees j.cylinders jobs t.jobs t.sum board.done)
    → IfOk r (λ v. account_of v ≡ service j.cylinders) → IfOk r (λ v. IsServed j (account_of v))
gathered j d p totals t board jobs (Ok v) sized closed some done agrees reported =
    all-served j d p totals t board jobs (account_of v) sized closed some done (agrees.0 refl) reported
gathered j d p totals t board jobs (Err e) sized closed some done agrees reported = tt
