-- The way in which the client's bytes are cut, and the rooms that are lent, cannot be seen: "any cutting of the client's bytes, any rooms, the same
-- tables and images: the same bytes out, the same end, the same image".
--   session_cutting   of the machine: two finished sessions over one stream
--   calls_session     steps of the code one after the other are a session of the machine
--   cutting           of the code: two rows of steps over one stream that finish, from the one struct of a state (as `reached_one_struct` says of all
--                     that are reached)
--   last_finishes     a last step that was offered all that was left, and left room, finishes
use Prim.Native.Nat.{ℕ, ◌<◌}
use mathlib.Core.Path.{◌≡◌, sym, ap, ◌∙◌}
use mathlib.Core.List.{List}
use lib.ListN.{length, drop}
use Rattle.machine.specs.Machine.{On, on}
use Rattle.machine.specs.Run.{Ran}
use Rattle.machine.specs.Stream.{Session, over, piece, Finished}
use Rattle.machine.proofs.Cutting.{cutting as machine_cutting, step_finished}
use Rattle.server.specs.Session.{State, turn}
use Rattle.server.specs.View.{view, code}
use Rattle.server.specs.Ranges.{refusal}
use Rattle.server.specs.Contract.{Serves}
use Rattle.server.specs.History.{Calls, done, call}
use Rattle.server.specs.declared.state.Server.{Server}
use Rattle.server.specs.Answers.{Stepped}

module _ (t : List ℕ) where
  pub session_cutting : {x y z : State} {m m' m'' stream os ps rest rest' : List ℕ}
      → Session (turn t) (on x m) stream os (on y m') rest → Finished (turn t (on y m')) rest
      → Session (turn t) (on x m) stream ps (on z m'') rest' → Finished (turn t (on z m'')) rest'
      → (os ≡ ps) × (y ≡ z) × (m' ≡ m'') × (rest ≡ rest')
  session_cutting {y = y} {z} {m' = m'} {m''} {os = os} {ps} {rest} {rest'} p f q g =
      let e = machine_cutting p f q g in
      let s : on y m' ≡ on z m'' = ap (λ (r : Ran (On State)). r.stands) e in
      (ap (λ (r : Ran (On State)). r.given) e, cc, cc, ap (λ (r : Ran (On State)). r.rest) e)

module _ {t : List ℕ} where
  pub calls_session : {s z : Server} {m stream given m' rest : List ℕ} → Calls t s m stream given z m' rest
      → Session (turn t) (on (view s) m) stream given (on (view z) m') rest
  calls_session done = over
  calls_session (call n e p c) = piece n (p.accepts e).steps.goes (calls_session c)

  one_struct_kept : {s z : Server} {m stream given m' rest : List ℕ} → Calls t s m stream given z m' rest → s ≡ code (view s) → z ≡ code (view z)
  one_struct_kept done h = h
  one_struct_kept (call n e p c) h = one_struct_kept c (p.accepts e).one_struct

  pub cutting : {s y z : Server} {m m' m'' stream os ps rest rest' : List ℕ} → s ≡ code (view s)
      → Calls t s m stream os y m' rest → Finished (turn t (on (view y) m')) rest
      → Calls t s m stream ps z m'' rest' → Finished (turn t (on (view z) m'')) rest'
      → (os ≡ ps) × (y ≡ z) × (m' ≡ m'') × (rest ≡ rest')
  cutting h p f q g =
      let e = session_cutting t (calls_session p) f (calls_session q) g in
      (e.0, one_struct_kept p h ∙ ap code e.1 ∙ sym (one_struct_kept q h), e.2, e.3)

  pub last_finishes : {s : Server} {m stream room m' room' : List ℕ} {r : Stepped} → refusal t (length m) s ≡ 0
      → Serves s t m stream room r m' room' → r.given < length room → Finished (turn t (on (view r.state) m')) (drop r.taken stream)
  last_finishes e p h = step_finished (p.accepts e).steps h
