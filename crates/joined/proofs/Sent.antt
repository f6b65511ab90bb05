-- What each side does first in the handshake and in a call.
--   asks_sent        the client sends a call's request and its payload before it takes anything
--   greeting_taken   the client takes the greeting before it sends anything
--   hello_sent       and then sends its flags, the option and the name
--   name_taken       the server takes these before it answers
use Prim.Native.Nat.{ℕ, ◌≤◌}
use mathlib.Core.Path.{◌≡◌, refl, sym}
use mathlib.Core.Bool.{true, false}
use mathlib.Core.List.{List, [], ◌++◌}
use native.Mathlib.Omega.{arith}
use borrow.Author.Tests.{le-leb}
use lib.ListN.{length, take}
use lib.Seq.{length-take-le}
use Rattle.machine.specs.Machine.{on, Moves, still, by_take}
use Rattle.machine.proofs.Moves.{then}
use Rattle.machine.proofs.Bulk.{folds}
use Rattle.wire.specs.Fields.{be, same_bytes}
use Rattle.wire.specs.Constants.{NBD_OPT_EXPORT_NAME}
use Rattle.wire.specs.Layouts.{greeting, option_request, export_name}
use Rattle.wire.specs.Utf8.{run}
use Rattle.wire.specs.Table.{records}
use Rattle.wire.specs.Lookup.{started, narrowed_by}
use Rattle.wire.specs.declared.utf8.Utf8.TheVariants.{Start}
use Rattle.server.specs.Session as server
use Rattle.server.proofs.Names.{Seen, sees, seen, stands, each_seen}
use Rattle.server.proofs.Negotiation.{whole_flags_1, option_judged}
use Rattle.client.specs.Calls.{payload, request_bytes}
use Rattle.client.specs.Session.{Magic, Hello, SizeAndFlags, Asking, Hearing, Shaking, Calling, hello, judge_magic, judge_style, naming, greeting as greeted, paying, after_request, turn}
use Rattle.client.specs.declared.state.Device.{Device}
use Rattle.client.specs.declared.state.Call.{Call}
use Rattle.client.proofs.Runs.{length_hello, length_asks}
use Rattle.joined.proofs.Parts.{owed_run}

pub asks_sent : (d : Device) (c : Call) (m : List ℕ) → payload c ≤ length m
    → Moves turn (on (Calling d c (Asking 28)) m) [] (request_bytes d c ++ take (payload c) m) (on (Calling d c (Hearing [])) m)
asks_sent d c m fits =
    let p : Moves turn (on (after_request d c 28) m) [] (request_bytes d c) (on (paying d c (payload c)) m) =
    owed_run turn (after_request d c) (request_bytes d c) m 28 (sym (length_asks d c)) (λ _. refl) in
    then p (owed_run turn (paying d c) (take (payload c) m) m (payload c) (sym (length-take-le (payload c) m fits)) (λ _. refl))

pub greeting_taken : (n : ℕ) (m : List ℕ) → Moves turn (on (Shaking n (Magic [])) m) greeting [] (on (Shaking n (Hello 20)) m)
unfolding judge_magic judge_style same_bytes greeting be
greeting_taken n m =
    by_take refl (by_take refl (by_take refl (by_take refl (by_take refl (by_take refl (by_take refl (by_take refl (by_take refl
    (by_take refl (by_take refl (by_take refl (by_take refl (by_take refl (by_take refl (by_take refl (by_take refl (by_take refl still)))))))))))))))))

hello_name : (name : List ℕ) → hello (length name) ++ name ≡ export_name name
unfolding hello export_name option_request be
hello_name name = refl

pub hello_sent : (name : List ℕ) → Moves turn (on (Shaking (length name) (Hello 20)) name) [] (export_name name) (on (Shaking (length name) (SizeAndFlags false [])) name)
hello_sent name =
    let n : ℕ = length name in
    let p : Moves turn (on (greeted n 20) name) [] (hello n) (on (naming n n) name) = owed_run turn (greeted n) (hello n) name 20 (sym (length_hello n)) (λ _. refl) in
    let q : Moves turn (on (naming n n) name) [] name (on (Shaking n (SizeAndFlags false [])) name) = owed_run turn (naming n) name name n refl (λ _. refl) in
    rw (hello_name name) at (then p q)

pub name_taken : (t m name : List ℕ) → length name ≤ 100000
    → Moves (server.turn t) (on (server.Shaking (server.ClientFlags [])) m) (export_name name) []
    (on (server.named true t (narrowed_by (records t) 0 name (started (records t) (length name))) (run Start name)) m)
unfolding export_name option_request server.payload
name_taken t m name short =
    let set = started (records t) (length name) in
    let v : Seen = record { fits = set; text = Start; at = 0 } in
    let head = rw (le-leb (length name) 100000 short) at (option_judged t m true NBD_OPT_EXPORT_NAME (length name) (omega arith) (omega arith)) in
    let rest = folds (server.turn t) (stands true t) (sees t) (each_seen true t m) name v (length name) 0 (omega arith) in
    then (whole_flags_1 t m) (then head (rw (seen t name set Start 0) at rest))
