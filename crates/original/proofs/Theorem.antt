-- On the oracle domain the server does what document 000 does, from the greeting to the end of the session: it takes, sends, stores and ends as the
-- crate's own reading says. In each theorem the table t is sound for the image m, the input is any bytes, and no request of the session is excluded.
--   session_same   the machine, however the input is cut and whatever rooms are lent, once it has finished
--   run_same       the machine as a function, with enough fuel and room
--   calls_same     the code: any row of steps from a fresh server that finishes; then the end of input
--   step_same      the code: one step on the whole input, with enough room
-- And `oldstyle_header`, which stands by itself:
--   header_same    the code, for every size and flags, where the room has 152 bytes. With less, 000 ends with the error of its writer, and the port refuses with 13
use Prim.Native.Nat.{ℕ, suc, ◌+◌, ◌-◌, ◌≤◌}
use mathlib.Core.Path.{◌≡◌, refl, sym, ap, ◌∙◌}
use mathlib.Core.Bool.{true, false}
use mathlib.Core.List.{List, ◌++◌}
use Rattle.std.specs.Prelude.{None}
use native.Mathlib.Omega.{arith}
use borrow.Author.Tests.{le-ltb}
use lib.ListN.{length, take, drop, length-append}
use lib.Seq.{take-append_seam, drop-append_seam}
use Rattle.machine.specs.Machine.{on, owes}
use Rattle.machine.specs.Run.{reached, run_for}
use Rattle.machine.specs.Stream.{Session, Finished}
use Rattle.machine.proofs.Runs.{runs}
use Rattle.machine.proofs.Cutting.{one_piece, finished_stopped}
use Rattle.wire.specs.Fields.{be, Bytes}
use Rattle.wire.specs.Table.{fault}
use Rattle.server.specs.Session.{State, Greeting, ClientFlags, OptionHead, Naming, Passing, Listing, Declining, Aborting, Exporting, Shaking, turn}
use Rattle.server.specs.Session.{Header, Storing, Dropping, Replying, Sending, Serving, Over}
use Rattle.server.specs.View.{view, code}
use Rattle.server.specs.Ranges.{in_range}
use Rattle.server.specs.Inner.{Good}
use Rattle.server.specs.Contract.{Serves, owes_output, ended_at, end_of_input, header_of, Heads}
use Rattle.server.specs.History.{Reached, fresh, stepped, Calls, done, call}
use Rattle.server.specs.declared.state.Server.{Server}
use Rattle.server.specs.Answers.{Stepped}
use Rattle.server.specs.declared.state.Outcome.TheVariants.{Ended}
use Rattle.std.specs.Prelude.{Result, ⊤}
use Rattle.server.specs.declared.oldstyle.NoRoom.{NoRoom}
use Rattle.server.proofs.Kept.{next_good}
use Rattle.server.proofs.Result.{in_range_for_ever}
use Rattle.server.proofs.Cutting.{calls_session}
use Rattle.original.specs.Leaves.{oldstyle_header}
use Rattle.original.specs.Connection.{ended}
use Rattle.original.specs.Handshake.{Shaken, chose, failed, handshake}
use Rattle.original.specs.Server.{serve, session, DomainAfter, Domain, end_of, Same}
use Rattle.original.proofs.Leaves.{same_oldstyle}
use Rattle.original.proofs.Reaches.{reaches_then, one_end, step_ends}
use Rattle.original.proofs.Meets.{Meets}
use Rattle.original.proofs.Loop.{bytes_behind, transmission_same}
use Rattle.original.proofs.Shakes.{Shakes, handshake_same}

-- whether output is owed does not depend on what is lent
same_owed : (t m : List ℕ) (x : State) → owes (turn t (on x m)) ≡ owes_output x
same_owed t m (Shaking (Greeting left)) = refl
same_owed t m (Shaking (ClientFlags got)) = refl
same_owed t m (Shaking (OptionHead z got)) = refl
same_owed t m (Shaking (Naming z fits text at left)) = refl
same_owed t m (Shaking (Passing z option len left)) = refl
same_owed t m (Shaking (Listing z left)) = refl
same_owed t m (Shaking (Declining z option left)) = refl
same_owed t m (Shaking (Aborting left)) = refl
same_owed t m (Shaking (Exporting z e left)) = refl
same_owed t m (Serving e (Header got)) = refl
same_owed t m (Serving e (Storing handle off left)) = refl
same_owed t m (Serving e (Dropping error handle left)) = refl
same_owed t m (Serving e (Replying error handle left off len)) = refl
same_owed t m (Serving e (Sending off left)) = refl
same_owed t m (Over n) = refl

-- the host reports the end of input
closes : (t m : List ℕ) {rest : List ℕ} (s : Server) → in_range s ≡ true → Finished (turn t (on (view s) m)) rest → (end_of_input s).outcome ≡ Ended (end_of (view s))
closes t m s h f = rw h (go (view s) (sym (same_owed t m (view s)) ∙ f.none_owed))
  where
    go : (x : State) → owes_output x ≡ false → (ended_at s x).outcome ≡ Ended (end_of x)
    go (Shaking p) e = rw e
    go (Serving x p) e = rw e
    go (Over n) e = refl

calls_reached : {t m stream given m' rest : List ℕ} {s z : Server} → Reached s → Calls t s m stream given z m' rest → Reached z
calls_reached h done = h
calls_reached h (call n e p c) = calls_reached (stepped h p) c

module _ (t m input : List ℕ) (sound : fault (length m) t ≡ 0) (bytes : Bytes input) (domain : Domain t m input) where
  abbrev start : State
  start = Shaking (Greeting 18)

  meets : Meets t (on start m) input (session t m input)
  meets = go (handshake t input) (handshake_same t m input bytes) domain
    where
      good : Good t (length m) start
      good = record { within = refl; fits = rw sound }

      go : (s : Shaken) → Shakes t m start input s → DomainAfter m s → Meets t (on start m) input (serve m s)
      go (failed n left sent) p d = p
      go (chose e left sent) p d =
          reaches_then p.moves p.all_in (transmission_same t e (suc (length left)) m left (bytes_behind p.taken left (rw p.all_in at bytes)) (omega arith) (next_good p.moves good) d)

  pub session_same : {given m' rest : List ℕ} {y : State} → Session (turn t) (on start m) input given (on y m') rest → Finished (turn t (on y m')) rest
      → Same (session t m input) given y m' rest
  session_same s f =
      let a = one_end meets s f in
      record { same_left = a.same_left; same_sent = a.same_sent; same_image = a.same_store; same_end = a.same_answer }

  -- where it stands at the end, and that it comes there
  pub run_same : (y : State) × (ended (end_of y) ≡ (session t m input).outcome)
      × ((k room : ℕ) → length input + length (session t m input).sent ≤ k → length (session t m input).sent ≤ room
      → run_for (turn t) k (on start m) input room ≡ reached (on y (session t m input).device) (session t m input).left (session t m input).sent)
  run_same = (meets.state, meets.answers, λ k room fuel h. go k room fuel h)
    where
      go : (k room : ℕ) → length input + length (session t m input).sent ≤ k → length (session t m input).sent ≤ room
          → run_for (turn t) k (on start m) input room ≡ reached (on meets.state (session t m input).device) (session t m input).left (session t m input).sent
      go k room fuel h =
          let r = session t m input in
          let e : length r.sent + (room - length r.sent) ≡ room = omega arith in
          let l = ap length meets.all_in ∙ length-append meets.taken r.left in
          rw (← meets.all_in, e) at (runs k r.left (room - length r.sent) meets.moves (finished_stopped (room - length r.sent) meets.finished) (omega arith))

  -- steps of the code one after the other, from a fresh server
  pub calls_same : {given m' rest : List ℕ} {z : Server} → Calls t (code start) m input given z m' rest → Finished (turn t (on (view z) m')) rest
      → Same (session t m input) given (view z) m' rest × ((end_of_input z).outcome ≡ Ended (end_of (view z)))
  calls_same {m' = m'} {z = z} c f = (session_same (calls_session c) f, closes t m' z (in_range_for_ever (calls_reached fresh c)) f)

  -- one step on the whole input
  pub step_same : {room m' room' : List ℕ} {r : Stepped} → Serves (code start) t m input room r m' room' → length (session t m input).sent ≤ length room
      → Same (session t m input) (take r.given room') (view r.state) m' (drop r.taken input) × ((end_of_input r.state).outcome ≡ Ended (end_of (view r.state)))
  step_same {m' = m'} {r = r} p h =
      let a = p.accepts (rw sound) in
      let f = step_ends meets a.steps h in
      (session_same (one_piece a.steps.goes) f, closes t m' r.state (in_range_for_ever (stepped fresh p)) f)

-- ---- the old style's header
length_header : (size flags : ℕ) → length (oldstyle_header size flags) ≡ 152
unfolding oldstyle_header be
length_header size flags = refl

pub header_same : {room room' : List ℕ} {size flags : ℕ} {r : Result ⊤ NoRoom} → Heads room size flags r room' → 152 ≤ length room
    → (header_of r ≡ None) × (take 152 room' ≡ oldstyle_header size flags) × (drop 152 room' ≡ drop 152 room)
header_same {room} {room'} {size} {flags} p h =
    let enough = le-ltb (length room) 152 h in
    let bytes : List ℕ = oldstyle_header size flags in
    let l : length bytes ≡ 152 = length_header size flags in
    let w : room' ≡ bytes ++ drop 152 room = rw (same_oldstyle size flags) (rw enough at p.written) in
    (rw enough at p.number, rw w (rw l at (take-append_seam bytes (drop 152 room))), rw w (rw l at (drop-append_seam bytes (drop 152 room))))
