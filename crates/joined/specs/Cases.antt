-- 01's cases P1 to P12, as one list of what the definitions give and what 01 says.
--   cases   the list
-- An answer stands there as a list: `numbered`, with a number, or `without`, with values alone.
-- The server's and the client's cases run their machines (`run_for`) over the bytes of the case; 0x and small numbers are as 01 has them.
use Rattle.std.specs.Prelude.{ℕ, ◌^◌, false, List, [], ◌∷◌, ◌++◌, ℤ, negsuc, Option, None, Some}
use Rattle.machine.specs.Machine.{On, on}
use Rattle.machine.specs.Run.{Ran, run_for}
use Rattle.wire.specs.Fields.{be}
use Rattle.wire.specs.Constants.{IHAVEOPT}
use Rattle.wire.specs.Layouts.{greeting, option_request, request}
use Rattle.wire.specs.Table.{wire_flags}
use Rattle.wire.specs.Cases.{Case, is}
use Rattle.wire.specs.Results.{Result}
use Rattle.wire.specs.declared.table.Export.{Export}
use Rattle.server.specs.Session.{State, Shaking, Greeting, ClientFlags, Serving, Header, turn}
use Rattle.server.specs.Contract.{number_of, outcome_of}
use Rattle.client.specs.Session as client
use Rattle.client.specs.View.{code}
use Rattle.client.specs.Calls.{device, positioned}
use Rattle.client.specs.Contract as calls
use Rattle.client.specs.declared.state.SeekFrom.TheVariants.{Current}
use Rattle.client.specs.Answers.{Called}
use Rattle.joined.specs.Disk.{seek, from_here, result}

-- An answer as a list: its first element tells a number, such as a refusal's, from the values of an answer without one.
abbrev numbered : ℕ → List ℕ
numbered n = 1 ∷ n ∷ []

abbrev without : List ℕ → List ℕ
without values = 0 ∷ values

abbrev answered : Option ℕ → List ℕ → List ℕ
answered None values = without values
answered (Some n) values = numbered n ++ values

-- ---- the server, with the table of no records: the bytes that it gives, from a place on; and whether it has ended, and with which number
abbrev ending : On State → List ℕ
ending (on x m) = answered (number_of (outcome_of x)) []

abbrev runs : State → List ℕ → List ℕ → Ran (On State)
runs x img input = run_for (turn (1 ∷ [])) 200 (on x img) input 200

abbrev fresh : State
fresh = Shaking (Greeting 18)

abbrev asked : List ℕ → Ran (On State)
asked input = runs (Shaking (ClientFlags [])) [] (be 4 1 ++ input)

-- an export of 8 bytes, between two requests
abbrev eight : Export
eight = record { start = 0; size = 8; flags = 0 }

abbrev bytes : List ℕ
bytes = 10 ∷ 11 ∷ 12 ∷ 13 ∷ 14 ∷ 15 ∷ 16 ∷ 17 ∷ []

abbrev requested : List ℕ → Ran (On State)
requested input = runs (Serving eight (Header [])) bytes input

abbrev reply : ℕ → List ℕ
reply error = 0x67 ∷ 0x44 ∷ 0x66 ∷ 0x98 ∷ 0 ∷ 0 ∷ 0 ∷ error ∷ 1 ∷ 2 ∷ 3 ∷ 4 ∷ 5 ∷ 6 ∷ 7 ∷ 8 ∷ []

abbrev handle : ℕ
handle = 0x0102030405060708

-- ---- the client
abbrev greeted : Ran (On client.State)
greeted = run_for client.turn 200 (on (client.Shaking 1 (client.Magic [])) (0x61 ∷ [])) greeting 200

-- its answer to a seek by z from the position p
abbrev sought : ℕ → ℤ → List ℕ
sought p z = answer (calls.seeking (Current z) (code (client.Ready (positioned (device 8 1) p))))
  where
    answer : Called → List ℕ
    answer r = answered (calls.number_of r.outcome) (calls.values_of r.outcome)

-- the same on the plain disk
abbrev plainly : ℕ → ℤ → List ℕ
plainly p z = answer (result (record { bytes = bytes; read_only = false; position = p }) (seek (from_here z)))
  where
    answer : Result → List ℕ
    answer r = answered r.number r.values

-- ---- the list
abbrev pub cases : List Case
cases =
    -- P1 greeting
    is (runs fresh [] []).given (0x4E ∷ 0x42 ∷ 0x44 ∷ 0x4D ∷ 0x41 ∷ 0x47 ∷ 0x49 ∷ 0x43 ∷ 0x49 ∷ 0x48 ∷ 0x41 ∷ 0x56 ∷ 0x45 ∷ 0x4F ∷ 0x50 ∷ 0x54 ∷ 0x00 ∷ 0x03 ∷ [])
    -- P2 LIST
    ∷ is (asked (option_request 3 [])).given (
    0x00 ∷ 0x03 ∷ 0xE8 ∷ 0x89 ∷ 0x04 ∷ 0x55 ∷ 0x65 ∷ 0xA9 ∷ 0x00 ∷ 0x00 ∷ 0x00 ∷ 0x03 ∷ 0x00 ∷ 0x00 ∷ 0x00 ∷ 0x02 ∷ 0x00 ∷ 0x00 ∷ 0x00 ∷ 0x0B
    ∷ 0x00 ∷ 0x00 ∷ 0x00 ∷ 0x07 ∷ 0x72 ∷ 0x75 ∷ 0x73 ∷ 0x74 ∷ 0x6E ∷ 0x62 ∷ 0x64
    ∷ 0x00 ∷ 0x03 ∷ 0xE8 ∷ 0x89 ∷ 0x04 ∷ 0x55 ∷ 0x65 ∷ 0xA9 ∷ 0x00 ∷ 0x00 ∷ 0x00 ∷ 0x03 ∷ 0x00 ∷ 0x00 ∷ 0x00 ∷ 0x01 ∷ 0x00 ∷ 0x00 ∷ 0x00 ∷ 0x00 ∷ [])
    -- P3 flags: plain, and read-only rotational
    ∷ is (wire_flags 0 ∷ wire_flags 5 ∷ []) (5 ∷ 19 ∷ [])
    -- P4 option length
    ∷ is (ending (asked (IHAVEOPT ++ be 4 3 ++ be 4 100000)).stands) (without [])
    ∷ is (ending (asked (IHAVEOPT ++ be 4 3 ++ be 4 100001)).stands) (numbered 3)
    -- P5 READ 4+4, P6 READ 5+4
    ∷ is (requested (request 0 0 handle 4 4)).given (reply 0 ++ 14 ∷ 15 ∷ 16 ∷ 17 ∷ [])
    ∷ is (requested (request 0 0 handle 5 4)).given (reply 22)
    -- P7 WRITE 7+2: the reply, and that no byte is left; P8 WRITE 8+0
    ∷ is (requested (request 0 1 handle 7 2 ++ 1 ∷ 2 ∷ [])).given (reply 28)
    ∷ is (requested (request 0 1 handle 7 2 ++ 1 ∷ 2 ∷ [])).rest []
    ∷ is (requested (request 0 1 handle 8 0)).given (reply 0)
    -- P9 offset 2^64-1, length 1
    ∷ is (requested (request 0 0 handle 0xFFFFFFFFFFFFFFFF 1)).given (reply 22)
    -- P10 client, name "a"
    ∷ is greeted.given (
    0x00 ∷ 0x00 ∷ 0x00 ∷ 0x01 ∷ 0x49 ∷ 0x48 ∷ 0x41 ∷ 0x56 ∷ 0x45 ∷ 0x4F ∷ 0x50 ∷ 0x54 ∷ 0x00 ∷ 0x00 ∷ 0x00 ∷ 0x01 ∷ 0x00 ∷ 0x00 ∷ 0x00 ∷ 0x01 ∷ 0x61 ∷ [])
    -- P11 position 5, seek -5 and -6; P12 seek by -2^63 from 2^63; the client, then the plain disk
    ∷ is (sought 5 (negsuc 4)) (without (0 ∷ []))
    ∷ is (sought 5 (negsuc 5)) (numbered 48)
    ∷ is (sought (2 ^ 63) (negsuc 0x7FFFFFFFFFFFFFFF)) (numbered 48)
    ∷ is (plainly 5 (negsuc 4)) (without (0 ∷ []))
    ∷ is (plainly 5 (negsuc 5)) (numbered 48)
    ∷ is (plainly (2 ^ 63) (negsuc 0x7FFFFFFFFFFFFFFF)) (numbered 48)
    ∷ []
