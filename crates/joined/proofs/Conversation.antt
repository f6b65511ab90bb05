-- The handshake and all calls as one talk of the two machines, its start and its end.
--   talk, length_up, length_down   the talk, and how many bytes it has: 01's formula
--   fit, executed                  a run of the code from the start is an execution from there, in which no step is refused
--   finished, ended                where all is closed the talk is over; what that says of results and image
--   last_round                     the last of some rounds
use Prim.Native.Nat.{ℕ, suc, ◌+◌}
use mathlib.Core.Path.{◌≡◌, refl, sym, ap, ◌∙◌}
use mathlib.Core.Bool.{true}
use mathlib.Core.List.{List, [], ◌∷◌, ◌++◌}
use lib.ListN.{length, take, drop, length-append}
use Rattle.machine.specs.Machine.{On, on}
use Rattle.machine.specs.Traffic.{Traffic, talk_bytes}
use Rattle.machine.specs.Wires.{sys, the_client, the_server, Exec, Talk}
use Rattle.machine.proofs.Talking.{talk_then}
use Rattle.wire.specs.declared.table.Export.{Export}
use Rattle.wire.specs.Table.{wire_flags}
use Rattle.wire.specs.Layouts.{greeting, export_reply, export_name}
use Rattle.server.specs.Session.{State, Shaking, Greeting, Serving, Header, export_at, turn as serve}
use Rattle.server.specs.View.{code}
use Rattle.server.specs.declared.state.Server.{Server}
use Rattle.client.specs.Session as client
use Rattle.client.specs.Calls.{device}
use Rattle.client.specs.Contract.{fresh}
use Rattle.client.specs.History.{at_first}
use Rattle.client.specs.declared.state.Client.{Client}
use Rattle.wire.specs.Results.{Result}
use Rattle.machine.specs.Parts.{placed}
use Rattle.joined.specs.Disk.{Disk, Call, results, final}
use Rattle.joined.specs.Carried.{up_all, down_all}
use Rattle.joined.specs.Said.{questions, answers, said_up, said_down}
use Rattle.joined.specs.Code.{Code, joint, Ready, Sized, Runs, Holds, begin, export, disk, opening}
use Rattle.joined.specs.Host.{Visits, Rounds, no_round, round}
use Rattle.joined.proofs.Driver.{Driver, busy, over, next, settle, drive}
use Rattle.joined.proofs.Coded.{Fit, Fits, stands, runs_exec}
use Rattle.joined.proofs.Calls.{Told, calls_talk}
use Rattle.joined.proofs.Ending.{talk_over}
use Rattle.joined.proofs.Collecting.{by_take}
use Rattle.joined.proofs.Formula.{length_questions, length_answers}
use Rattle.joined.proofs.Opening.{sound_record, short, front, in_parts, first_agrees, handshake_talk, carried_up, carried_down}

pub last_round : {t : List ℕ} {cu cd n : ℕ} {x z : Code} → Rounds t cu cd (suc n) x z
    → (y : Code) × Rounds t cu cd n x y × (i : ℕ) × (j : ℕ) × Visits t cu cd (suc i) (suc j) y z
last_round {x = x} (round {i = i} {j = j} v no_round) = (x, no_round, i, j, v)
last_round (round v (round w r)) =
    let l = last_round (round w r) in
    (l.0, round v l.1, l.2, l.3, l.4)

module _ {t img name : List ℕ} {k : ℕ} (holds : Holds t img name k) (ks : List Call) where
  abbrev pub e : Export
  e = export_at t k

  abbrev pub plain : Disk
  plain = disk (export t k) img

  -- the results: that of the handshake, and those of the calls
  abbrev pub all : List Result
  all = opening (export t k) name ∷ results plain ks

  -- ---- the whole talk
  abbrev pub before : List ℕ
  before = take e.start img

  abbrev pub behind : List ℕ
  behind = drop (e.start + e.size) img

  abbrev pub start : Driver
  start = busy (client.Shaking (length name) (client.Magic [])) name ks []

  abbrev pub end : On State
  end = on (Serving e (Header [])) (before ++ (final plain ks).bytes ++ behind)

  abbrev pub us : List ℕ
  us = said_up name plain ks

  abbrev pub ds : List ℕ
  ds = said_down (export t k) plain ks

  pub told : Told t e before behind (front holds) (sound_record holds).size_fits (next (device e.size (wire_flags e.flags)) ks (opening (export t k) name ∷ [])) plain all (final plain ks)
      (questions plain ks) (answers plain ks)
  told = calls_talk t e before behind (front holds) (sound_record holds).size_fits ks (device e.size (wire_flags e.flags)) plain (opening (export t k) name ∷ []) (first_agrees holds)

  pub talk : Talk drive (serve t) us ds start (on (Shaking (Greeting 18)) img) (over all) end
  talk = talk_then (handshake_talk holds ks) (rw (in_parts holds) at told.talk)

  pub length_up : length us ≡ up_all name plain ks
  length_up = length-append (export_name name) (questions plain ks) ∙ rw (carried_up holds, length_questions ks plain)

  pub length_down : length ds ≡ down_all plain ks
  length_down = length-append (greeting ++ export_reply e.size (wire_flags e.flags) true) (answers plain ks) ∙ rw (carried_down holds, length_answers ks plain)

  -- ---- the start
  pub fit : Fit t fresh name (code (Shaking (Greeting 18))) img
  fit = record { reached = at_first; client_fits = refl; name_fits = λ _. short holds; server_fits = rw holds.sound }

  pub executed : {cu cd : ℕ} {b : Traffic} {z : Code} → Runs t cu cd b (begin name ks img) z
      → Exec drive (serve t) cu cd b (sys start (on (Shaking (Greeting 18)) img) [] []) (stands z) × Fits t z
  executed p = runs_exec p fit

  -- ---- the end
  pub finished : {cu cd : ℕ} {b : Traffic} {c : Client} {m : List ℕ} {rs : List Result} {s : Server} {img' u d : List ℕ} → Sized cu cd
      → Runs t cu cd b (begin name ks img) (joint c m [] rs s img' u d) → Ready c
      → (stands (joint c m [] rs s img' u d) ≡ sys (over all) end [] []) × (b ≡ talk_bytes us ds)
  finished wires run i = talk_over wires.up wires.down talk refl refl (by_take all) (executed run).0 (rw i.rests)

  abbrev pub Outcome : List Result → List ℕ → Type 0
  Outcome rs img' = (rs ≡ all) × (img' ≡ placed img (export t k).start (final plain ks).bytes)

  pub ended : (c : Client) (m : List ℕ) (rs : List Result) (s : Server) (img' u d : List ℕ)
      → Ready c → stands (joint c m [] rs s img' u d) ≡ sys (over all) end [] [] → Outcome rs img'
  ended c m rs s img' u d i h =
      let r : over rs ≡ over all = ap (λ (x : client.State). settle (on x m) [] rs) (sym i.rests) ∙ ap the_client h in
      let j : img' ≡ before ++ (final plain ks).bytes ++ behind = cc (ap the_server h) in
      (cc r, rw told.whole j)
