-- The disk that C's four words are.
use Rattle.std.specs.Prelude.{ℕ, zero, suc, ◌≡◌, ◌≤◌, Option, Some, None, refl}
use Rattle.std.proofs.Common.{arith}
use Rattle.sweep_schedulers.specs.declared.direction.Direction.{Direction}
use Rattle.sweep_schedulers.specs.declared.direction.Direction.TheVariants.{Up, Down}
use Rattle.sweep_schedulers.specs.Heads.{Disk}

-- 0 is up, and every other number is down
abbrev pub direction_of : ℕ → Direction
direction_of zero = Up
direction_of (suc n) = Down

-- the drive is in at 0
abbrev pub drive_of : ℕ → Option (Unit {0})
drive_of zero = Some tt
drive_of (suc n) = None

-- the disk of C's four words, with no grant counted as due
abbrev pub disk_of : ℕ → ℕ → ℕ → ℕ → Disk (Unit {0})
disk_of at last sweeps out =
    record { drive = drive_of out; headpos = at; direction = direction_of sweeps; cylmax = last; stay = 0 }

-- the head is on the disk, the last cylinder is at most 65,535, and the words for the sweep and for the drive are 0 or
-- 1
pub record IsHead (at last sweeps out : ℕ) : Type 0 where
  pub on_disk : at ≤ last
  pub few : last ≤ 65535
  pub one_sweep : sweeps ≤ 1
  pub one_drive : out ≤ 1

-- the words of a disk
abbrev pub sweep_of : Direction → ℕ
sweep_of Up = 0
sweep_of Down = 1

abbrev pub out_of : Option (Unit {0}) → ℕ
out_of (Some drive) = 0
out_of None = 1

-- a word of 0 or 1 is that of its disk
pub sweep_same : (n : ℕ) → n ≤ 1 → sweep_of (direction_of n) ≡ n
sweep_same zero few = refl
sweep_same (suc n) few = omega (arith, few)

pub out_same : (n : ℕ) → n ≤ 1 → out_of (drive_of n) ≡ n
out_same zero few = refl
out_same (suc n) few = omega (arith, few)
