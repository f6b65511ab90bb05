-- How many bytes go up, from the client to the server, and down (01, "Carried bytes").
--   if_moves n bytes           a call's bytes, where it moves some; else 0
--   up d k, down d k          for one call on the disk d
--   ups, downs                for a list of calls
--   up_all, down_all            for the handshake and a list of calls
use Rattle.std.specs.Prelude.{ℕ, zero, suc, ◌+◌, List, [], ◌∷◌, length, Option, None, Some}
use Rattle.joined.specs.Disk.{Disk, Call, read, write, seek, flush, trim, transfer, after}

-- so many bytes where the call moves some, "Otherwise none"
abbrev pub if_moves : Option ℕ → (ℕ → ℕ) → ℕ
if_moves None bytes = 0
if_moves (Some zero) bytes = 0
if_moves (Some (suc n)) bytes = bytes (suc n)

-- "Successful read with n > 0: 28 up, 16 + n down. Write with n > 0, failed ones too: 28 + n up, 16 down. Flush, and trim with n > 0: 28 up, 16 down."
abbrev pub up : Disk → Call → ℕ
up d (read buf) = if_moves (transfer d (length buf)) (λ n. 28)
up d (write buf) = if_moves (transfer d (length buf)) (λ n. 28 + n)
up d (seek f) = 0
up d flush = 28
up d (trim k) = if_moves (transfer d k) (λ n. 28)

abbrev pub down : Disk → Call → ℕ
down d (read buf) = if_moves (transfer d (length buf)) (λ n. 16 + n)
down d (write buf) = if_moves (transfer d (length buf)) (λ n. 16)
down d (seek f) = 0
down d flush = 16
down d (trim k) = if_moves (transfer d k) (λ n. 16)

abbrev pub ups : Disk → List Call → ℕ
ups d [] = 0
ups d (k ∷ ks) = up d k + ups (after d k) ks

abbrev pub downs : Disk → List Call → ℕ
downs d [] = 0
downs d (k ∷ ks) = down d k + downs (after d k) ks

-- "Handshake: 20 + name length up, 152 down."
abbrev pub up_all : List ℕ → Disk → List Call → ℕ
up_all name d ks = 20 + length name + ups d ks

abbrev pub down_all : Disk → List Call → ℕ
down_all d ks = 152 + downs d ks
