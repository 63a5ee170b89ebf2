-- The flags of open(2), by their numbers in <fcntl.h>. These are the same on x86-64 and on arm64, but for four.
use Rattle.std.specs.Prelude.{◌≡◌, ℕ, ◌+◌, ◌^◌, ◌==◌, Bool, bit_and, bit_or}
use Rattle.system_calls.specs.declared.opening.MachineFlags.{MachineFlags}

abbrev pub O_WRONLY : ℕ
O_WRONLY = 1

abbrev pub O_RDWR : ℕ
O_RDWR = 2

abbrev pub O_CREAT : ℕ
O_CREAT = 2 ^ 6

abbrev pub O_EXCL : ℕ
O_EXCL = 2 ^ 7

abbrev pub O_NOCTTY : ℕ
O_NOCTTY = 2 ^ 8

abbrev pub O_TRUNC : ℕ
O_TRUNC = 2 ^ 9

abbrev pub O_APPEND : ℕ
O_APPEND = 2 ^ 10

abbrev pub O_NONBLOCK : ℕ
O_NONBLOCK = 2 ^ 11

abbrev pub O_DSYNC : ℕ
O_DSYNC = 2 ^ 12

abbrev pub O_NOATIME : ℕ
O_NOATIME = 2 ^ 18

abbrev pub O_CLOEXEC : ℕ
O_CLOEXEC = 2 ^ 19

-- it has the bit of O_DSYNC, too
abbrev pub O_SYNC : ℕ
O_SYNC = 2 ^ 20 + O_DSYNC

abbrev pub O_PATH : ℕ
O_PATH = 2 ^ 21

-- it has the bit of O_DIRECTORY, too
abbrev pub o_tmpfile : MachineFlags → ℕ
o_tmpfile machine = bit_or (2 ^ 22) machine.directory

-- the flags have this one: all of its bits
abbrev pub has : ℕ → ℕ → Bool
has flags flag = bit_and flags flag == flag

-- the flags have no bits but these
abbrev pub are_among : ℕ → ℕ → Bool
are_among flags known = bit_and flags known == flags

-- how a file is used, of which O_RDONLY has no bit
abbrev pub access : ℕ → ℕ
access flags = bit_and flags 3

-- ---- the machines

-- O_LARGEFILE is 0 in a C library whose files are large without it
abbrev pub x86_64 : ℕ → MachineFlags
x86_64 largefile =
    record {
      directory = 2 ^ 16;
      nofollow = 2 ^ 17;
      direct = 2 ^ 14;
      largefile = largefile;
    }

abbrev pub arm64 : ℕ → MachineFlags
arm64 largefile =
    record {
      directory = 2 ^ 14;
      nofollow = 2 ^ 15;
      direct = 2 ^ 16;
      largefile = largefile;
    }

pub data IsOfMachine (machine : MachineFlags) : Type 0 where
  on_x86_64 : machine ≡ x86_64 (2 ^ 15) → IsOfMachine machine
  on_x86_64_large : machine ≡ x86_64 0 → IsOfMachine machine
  on_arm64 : machine ≡ arm64 (2 ^ 17) → IsOfMachine machine
  on_arm64_large : machine ≡ arm64 0 → IsOfMachine machine
