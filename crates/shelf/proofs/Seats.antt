-- What the seats of a shelf are in a contract.
use Rattle.std.proofs.Common.{◌≡◌, ℕ, List, [], ◌∷◌, ◌++◌, Option, Some, None, refl, sym, ap, ◌∙◌, subst}
use Rattle.atomic_table.specs.Seated.{TableId}
use Rattle.shelf.specs.declared.view.Change.TheVariants.{Take}
use Rattle.shelf.specs.declared.view.Role.TheVariants.{Keeps, Lent}
use Rattle.shelf.specs.Log.{Log}
use Rattle.shelf.specs.Views.{AreNumbers, seen, in_hand, log_of, number_of}
use Rattle.shelf.specs.Shelves.{CollectorOf, ShelfId, SlipOf, WasAbsent, WasTaken, collector_of, shelf_id, slip_of}
use Rattle.shelf.specs.Steps.{SeatState, IsCollecting, IsLent, Missed, Found}

-- the value in the slot taken last, or d
abbrev value_or : {S : Type 0} → S → List (ℕ × S) → S
value_or d [] = d
value_or d (x ∷ xs) = x.1

-- a slot holds one value
pub slot_has : {S : Type 0} (k j : ℕ) (x y : S) (c rest rest' : List (ℕ × S)) → c ≡ (k, x) ∷ rest → c ≡ (j, y) ∷ rest'
    → x ≡ y
slot_has k j x y c rest rest' one two = ap (value_or x) (sym one ∙ two)

abbrev content_or : {T : Type 0} → T → Option T → T
content_or d (Some x) = x
content_or d None = d

pub some_is : {T : Type 0} (x y : T) → Some x ≡ Some y → x ≡ y
some_is x y is = ap (content_or x) is

module _ {G : Type 0} where
  -- a slip of the shelf has a seat of the shelf's table
  pub same_table : (z z' : TableId) (t t' : G) (j : ℕ) (p : SlipOf G) (d : ShelfId G)
      → slip_of (shelf_id z t) j ≡ p → shelf_id z' t' ≡ d → p.shelf ≡ d → z ≡ z'
  same_table z z' t t' j p d view_is is same =
      ap (λ (o : SlipOf G). o.shelf.table) view_is ∙ ap (λ (o : ShelfId G). o.table) (same ∙ sym is)

  -- what a collector of the shelf d knows of the shelf's table z with its key: its seat has the table y and the tag t
  pub record At (y z : TableId) (t key : G) (d : ShelfId G) : Type 0 where
    pub table : y ≡ z
    pub key_is : key ≡ d.tag
    pub tag : t ≡ d.tag
    pub shelf : shelf_id y t ≡ d

module _ {T G : Type 0} where
  -- the collector of this seat
  abbrev pub as_collector : TableId → SeatState T G → CollectorOf T G
  as_collector z m = collector_of (shelf_id z m.0.tag) (log_of m.0.role) (in_hand m.0.role)

  pub is_collecting : (n : ℕ) (m : SeatState T G) (tag : G) (log : Log T) (ks : List ℕ)
      → m ≡ (seen tag (Keeps log ks), []) → AreNumbers n ks → IsCollecting m × AreNumbers n (in_hand m.0.role)
  is_collecting n m tag log ks is numbers =
      subst (λ (q : SeatState T G). IsCollecting q × AreNumbers n (in_hand q.0.role)) (sym is) (refl, numbers)

  -- the seat of the right to put the thing k
  pub lent_as : (m : SeatState T G) (z : TableId) (p : SlipOf G) (k : ℕ)
      → slip_of (shelf_id z m.0.tag) (number_of m.0.role) ≡ p → p.number ≡ k → IsLent m
      → m ≡ (seen m.0.tag (Lent k), [])
  lent_as m z p k view_is number is =
      is ∙ ap (λ (j : ℕ). (seen m.0.tag (Lent j), [])) (ap (λ (o : SlipOf G). o.number) view_is ∙ number)

  pub collects_at : (y z : TableId) (t key : G) (log : Log T) (ks : List ℕ) (p : CollectorOf T G) (d : ShelfId G)
      → collector_of (shelf_id y t) log ks ≡ p → shelf_id z key ≡ d → p.shelf ≡ d → At y z t key d
  collects_at y z t key log ks p d view_is is same =
      let shelf = ap (λ (o : CollectorOf T G). o.shelf) view_is ∙ same in record {
        table = ap (λ (o : ShelfId G). o.table) (shelf ∙ sym is);
        key_is = ap (λ (o : ShelfId G). o.tag) is;
        tag = ap (λ (o : ShelfId G). o.tag) shelf;
        shelf = shelf;
      }

  pub was_absent : (k : ℕ) (z z' : TableId) (m m' : SeatState T G) (old : CollectorOf T G) → as_collector z m ≡ old
      → Missed m.0.tag (log_of m.0.role) (in_hand m.0.role) k m' → WasAbsent k old (as_collector z' m')
  was_absent k z z' m m' old view_is missed =
      subst (λ (o : CollectorOf T G). WasAbsent k o (as_collector z' m')) view_is
      (subst (λ (q : SeatState T G). WasAbsent k (as_collector z m) (as_collector z' q)) (sym missed.is)
      (record { moment = missed.moment; absent = missed.absent; in_hand = refl }))

  pub was_taken : (Fits : G → ℕ → T → Type 0) (n k : ℕ) (x : T) (z z' : TableId) (m m' m'' : SeatState T G)
      (old : CollectorOf T G) → as_collector z m ≡ old
      → (found : Found Fits n m.0.tag (log_of m.0.role) (in_hand m.0.role) k m') → found.thing ≡ x
      → m'' ≡ (seen m.0.tag (Keeps (found.log ++ Take k ∷ []) (k ∷ in_hand m.0.role)), [])
      → WasTaken k x old (as_collector z' m'')
  was_taken Fits n k x z z' m m' m'' old view_is found same is =
      subst (λ (o : CollectorOf T G). WasTaken k x o (as_collector z' m'')) view_is
      (subst (λ (q : SeatState T G). WasTaken k x (as_collector z m) (as_collector z' q)) (sym is)
      (record {
        before = found.log;
        moment = found.moment;
        present = found.present ∙ ap (λ (y : T). Some y) same;
        log = refl;
        in_hand = refl;
      }))
