-- A header that is cut: its bytes are gathered, and more are wanted.
--   gathered_part   fewer bytes than the next place that is judged
--   flags_part      of the client's flags
--   request_part, magic_part          of a request
--   option_part, option_magic_part    of an option
--   payload_part    an option's payload that is cut
use Prim.Native.Nat.{ℕ, suc, ◌+◌, ◌-◌, ◌≤◌, ◌<◌}
use mathlib.Core.Path.{◌≡◌, refl}
use mathlib.Core.Bool.{Bool, true}
use mathlib.Core.List.{List, [], ◌∷◌, ◌++◌, append-nil, foldl}
use native.Mathlib.Omega.{arith}
use borrow.Author.Tests.{eq-eqb, le-leb}
use lib.Dec.{eqb}
use lib.ListN.{length, take, drop, length-append, length-drop, take-append-drop}
use lib.Seq.{length-take-le}
use Rattle.machine.specs.Machine.{On, on, takes, Moves, still}
use Rattle.machine.proofs.Families.{Gathers, Quiet}
use Rattle.machine.proofs.Moves.{then}
use Rattle.machine.proofs.Bulk.{folds, drops}
use Rattle.wire.specs.Fields.{number, same_bytes}
use Rattle.wire.specs.Constants.{IHAVEOPT, NBD_REQUEST_MAGIC}
use Rattle.wire.specs.Table.{records}
use Rattle.wire.specs.Lookup.{started}
use Rattle.wire.specs.declared.utf8.Utf8.TheVariants.{Start}
use Rattle.wire.specs.declared.table.Export.{Export}
use Rattle.wire.proofs.BigEndian.{same_bytes_refl}
use Rattle.server.specs.Session.{State, ClientFlags, OptionHead, Shaking, Header, Serving, judge_flags, judge_option, payload, passing, naming, requested, turn}
use Rattle.server.proofs.Header.{each_flags, quiet_flags, each_request, quiet_request, each_option, quiet_option}
use Rattle.server.proofs.Kept.{picked}
use Rattle.server.proofs.Names.{Seen, sees, stands, each_seen}
use Rattle.server.proofs.Session.{each_passed}
use Rattle.server.proofs.Whole.{gather_whole}
use Rattle.original.specs.Server.{end_of}

module _ (t m : List ℕ) where
  pub gathered_part : (wait judge : List ℕ → State) (to : ℕ) → Gathers (turn t) wait judge m → (got is : List ℕ) → Quiet (turn t) wait judge (length got) to → length got + length is < to
      → Moves (turn t) (on (wait got) m) is [] (on (wait (got ++ is)) m)
  gathered_part wait judge to each got [] quiet h = rw (append-nil got) still
  gathered_part wait judge to each got (b ∷ is) quiet h =
      let l = length-append got (b ∷ is) in
      rw (quiet (got ++ b ∷ is) (omega arith) (omega arith)) at (gather_whole t m wait judge to each got (b ∷ is) quiet (omega arith) (omega arith))

  -- ---- the client's flags
  pub flags_part : (input : List ℕ) → length input < 4 → Moves (turn t) (on (Shaking (ClientFlags [])) m) input [] (on (Shaking (ClientFlags input)) m)
  flags_part input h = gathered_part (λ got. Shaking (ClientFlags got)) judge_flags 4 (each_flags t m) [] input (quiet_flags t 0) (omega arith)

  -- ---- a request
  module _ (e : Export) (input : List ℕ) where
    pub request_part : length input < 4 → Moves (turn t) (on (Serving e (Header [])) m) input [] (on (Serving e (Header input)) m)
    request_part h = gathered_part (λ got. Serving e (Header got)) (requested e) 4 (each_request t e m) [] input (quiet_request t e 0) (omega arith)

    pub magic_part : 4 ≤ length input → length input < 28 → number (take 4 input) ≡ NBD_REQUEST_MAGIC
        → Moves (turn t) (on (Serving e (Header [])) m) input [] (on (Serving e (Header input)) m)
    unfolding requested
    magic_part enough h right =
        let l : length (take 4 input) ≡ 4 = length-take-le 4 input enough in
        let magic = rw (l, eq-eqb (number (take 4 input)) NBD_REQUEST_MAGIC right) at (gather_whole t m (λ got. Serving e (Header got)) (requested e) 4 (each_request t e m) [] (take 4 input) (quiet_request t e 0) (omega arith) (omega arith)) in
        let rest = gathered_part (λ got. Serving e (Header got)) (requested e) 28 (each_request t e m) (take 4 input) (drop 4 input) (rw l (quiet_request t e 4)) (omega (arith, length-drop 4 input)) in
        rw (take-append-drop 4 input) at (then magic rest)

  -- ---- an option
  module _ (z : Bool) (input : List ℕ) where
    pub option_part : length input < 8 → Moves (turn t) (on (Shaking (OptionHead z [])) m) input [] (on (Shaking (OptionHead z input)) m)
    option_part h = gathered_part (λ got. Shaking (OptionHead z got)) (judge_option z t) 8 (each_option z t m) [] input (quiet_option z t 0) (omega arith)

    pub option_magic_part : 8 ≤ length input → length input < 16 → take 8 input ≡ IHAVEOPT → Moves (turn t) (on (Shaking (OptionHead z [])) m) input [] (on (Shaking (OptionHead z input)) m)
    unfolding judge_option
    option_magic_part enough h right =
        let l : length (take 8 input) ≡ 8 = length-take-le 8 input enough in
        let s : same_bytes (take 8 input) IHAVEOPT ≡ true = rw right (same_bytes_refl IHAVEOPT) in
        let magic = rw (l, s) at (gather_whole t m (λ got. Shaking (OptionHead z got)) (judge_option z t) 8 (each_option z t m) [] (take 8 input) (quiet_option z t 0) (omega arith) (omega arith)) in
        let rest = gathered_part (λ got. Shaking (OptionHead z got)) (judge_option z t) 16 (each_option z t m) (take 8 input) (drop 8 input) (rw l (quiet_option z t 8)) (omega (arith, length-drop 8 input)) in
        rw (take-append-drop 8 input) at (then magic rest)

    -- the state after a part of the payload, in which a byte is wanted
    pub record Wants (x : State) : Type 0 where
      pub state : State
      pub next : ℕ → On State
      pub moves : Moves (turn t) (on x m) input [] (on state m)
      pub wanted : turn t (on state m) ≡ takes next
      pub going_on : end_of state ≡ 12

    pub payload_part : (option len : ℕ) → length input < len → len ≤ 100000 → Wants (payload z t option len)
    unfolding payload
    payload_part option len h short = rw (le-leb len 100000 short) (picked Wants (eqb option 1) (λ _. name) (λ _. other))
      where
        k : ℕ
        k = len - suc (length input)

        name : Wants (naming z t (started (records t) len) Start 0 len)
        name =
            let v : Seen = record { fits = started (records t) len; text = Start; at = 0 } in
            record {
              state = stands z t (foldl (sees t) v input) (suc k);
              next = _;
              moves = folds (turn t) (stands z t) (sees t) (each_seen z t m) input v len (suc k) (omega arith);
              wanted = refl;
              going_on = refl;
            }

        other : Wants (passing z option len len)
        other = record {
          state = passing z option len (suc k);
          next = _;
          moves = drops (turn t) (passing z option len) (each_passed t z option len) input len (suc k) m (omega arith);
          wanted = refl;
          going_on = refl;
        }
