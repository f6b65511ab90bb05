-- Steps are there, by the contracts; and so is a move that carries a byte, where each step of one side does.
--   drives_there, serves_there   the contract of a step has a result, whatever the client or the server and what is lent
--   Carrying, move_there         a move that carries a byte
use Prim.Native.Nat.{ℕ, zero, suc, ◌+◌, ◌-◌, ◌≤◌, ◌<◌}
use mathlib.Core.Path.{◌≡◌, refl, sym, ap}
use mathlib.Core.Logic.{◌⊎◌, inl, inr}
use mathlib.Core.List.{List}
use native.Mathlib.Omega.{arith}
use lib.ListN.{length, take, replicate, length-replicate}
use lib.Seq.{take-length, length-take-le}
use Rattle.machine.specs.Machine.{On, on}
use Rattle.machine.specs.Pieces.{Steps}
use Rattle.machine.specs.Traffic.{Traffic, client_bytes, server_bytes, total}
use Rattle.machine.proofs.There.{step_there}
use Rattle.server.specs.Session as server
use Rattle.server.specs.View as viewed_server
use Rattle.server.specs.Ranges as refused_server
use Rattle.server.specs.Contract as served_contract
use Rattle.server.specs.Contract.{Serves}
use Rattle.server.specs.declared.state.Server.{Server}
use Rattle.server.specs.Answers as served
use Rattle.server.specs.declared.state.Outcome.TheVariants as server_outcome
use Rattle.server.proofs.Tidy.{stands_for}
use Rattle.server.proofs.Bounds as server_bounds
use Rattle.server.proofs.Kept.{next_good}
use Rattle.server.proofs.Numbers as served_numbers
use Rattle.client.proofs.Numbers.{numbered, valued}
use Rattle.server.proofs.Result.{within as served_within}
use Rattle.client.specs.Session as client
use Rattle.client.specs.View.{view, code}
use Rattle.client.specs.Ranges.{refusal}
use Rattle.client.specs.Contract.{after, outcome_of, Drives}
use Rattle.client.specs.declared.state.Client.{Client}
use Rattle.client.specs.declared.state.Outcome.TheVariants.{Refused}
use Rattle.client.specs.Answers as driven
use Rattle.client.proofs.Result.{within as driven_within}
use Rattle.wire.specs.Results.{Result}
use Rattle.joined.specs.Disk.{Call}
use Rattle.joined.specs.Code.{Code, joint, client_at, server_at, Move, client_step, server_step, ClientCarries, ServerCarries}

-- ---- a step of the client
pub record Driven (c : Client) (m input room : List ℕ) : Type 0 where
  pub result : driven.Stepped
  pub lent : List ℕ
  pub room' : List ℕ
  pub drives : Drives c m input room result lent room'

pub drives_there : (c : Client) (m input room : List ℕ) → Driven c m input room
drives_there c m input room = go (refusal (length m) c) refl
  where
    accepted : refusal (length m) c ≡ 0 → (y : On client.State) (taken given : ℕ) (room' : List ℕ)
        → Steps client.turn (on (view c) m) input room taken given y room' → Driven c m input room
    accepted fine (on x m') taken given room' s = record {
      result = record { state = code (after x); taken = taken; given = given; outcome = outcome_of x };
      lent = m';
      room' = room';
      drives = record { refuses = λ no. absurd (no fine); accepts = λ _. record { place = x; steps = s; state = refl; outcome = refl; number = numbered x; values = valued x } };
    }

    go : (n : ℕ) → refusal (length m) c ≡ n → Driven c m input room
    go zero e = let w = step_there (on (view c) m) input room in accepted e w.place w.taken w.given w.room' w.steps
    go (suc n) e = record {
      result = record { state = c; taken = 0; given = 0; outcome = Refused (refusal (length m) c) };
      lent = m;
      room' = room;
      drives = record {
        refuses = λ _. record { result = refl; number = refl; values = refl; same_lent = refl; same_room = refl };
        accepts = λ fine. absurd (omega (arith, fine, e));
      };
    }

-- ---- a step of the server
pub record Served (s : Server) (t img input room : List ℕ) : Type 0 where
  pub result : served.Stepped
  pub image : List ℕ
  pub room' : List ℕ
  pub serves : Serves s t img input room result image room'

pub serves_there : (s : Server) (t img input room : List ℕ) → Served s t img input room
serves_there s t img input room = go (refused_server.refusal t (length img) s) refl
  where
    accepted : refused_server.refusal t (length img) s ≡ 0 → (y : On server.State) (taken given : ℕ) (room' : List ℕ)
        → Steps (server.turn t) (on (viewed_server.view s) img) input room taken given y room' → Served s t img input room
    accepted fine (on x img') taken given room' p =
        let g = next_good p.goes.moves (server_bounds.accepted t (length img) s fine) in
        let v : viewed_server.view (viewed_server.code x) ≡ x = stands_for x g.within refl in
        record {
          result = record { state = viewed_server.code x; taken = taken; given = given; outcome = served_contract.outcome_of x };
          image = img';
          room' = room';
          serves = record {
            refuses = λ no. absurd (no fine);
            accepts = λ _. record {
              steps = rw v p;
              one_struct = ap viewed_server.code (sym v);
              outcome = ap served_contract.outcome_of (sym v);
              number = rw v (served_numbers.numbered x);
            };
          };
        }

    go : (n : ℕ) → refused_server.refusal t (length img) s ≡ n → Served s t img input room
    go zero e = let w = step_there (on (viewed_server.view s) img) input room in accepted e w.place w.taken w.given w.room' w.steps
    go (suc n) e = record {
      result = record { state = s; taken = 0; given = 0; outcome = server_outcome.Refused (refused_server.refusal t (length img) s) };
      image = img;
      room' = room;
      serves = record {
        refuses = λ _. record { result = refl; number = refl; same_image = refl; same_room = refl };
        accepts = λ fine. absurd (omega (arith, fine, e));
      };
    }

-- ---- a move, with all the space that there is as room
abbrev space : ℕ → List ℕ → List ℕ
space cap wire = replicate (cap - length wire) 0

space_fits : (cap : ℕ) (wire : List ℕ) → length wire ≤ cap → length wire + length (space cap wire) ≤ cap
space_fits cap wire h = rw (length-replicate {A = ℕ} (cap - length wire) 0) (omega arith)

some_space : (cap : ℕ) (wire : List ℕ) → length wire < cap → 0 < length (space cap wire)
some_space cap wire h = rw (length-replicate {A = ℕ} (cap - length wire) 0) (omega arith)

abbrev pub Carrying : List ℕ → ℕ → ℕ → Code → Type 0
Carrying t cu cd x = (b : Traffic) × (z : Code) × Move t cu cd b x z × (0 < total b)

module _ {t : List ℕ} {cu cd : ℕ} (c : Client) (m : List ℕ) (ks : List Call) (rs : List Result) (s : Server) (img u d : List ℕ) (hu : length u ≤ cu) (hd : length d ≤ cd) where
  pub move_there : ClientCarries cu c m u d ⊎ ServerCarries t cd s img u d → Carrying t cu cd (joint c m ks rs s img u d)
  move_there (inl go) =
      let w = drives_there c m d (space cu u) in
      let r = w.result in
      let p : Drives c m (take (length d) d) (space cu u) r w.lent w.room' = rw (take-length d) w.drives in
      let any = go (space cu u) r w.lent w.room' (some_space cu u) w.drives in
      let i = driven_within w.drives in
      let ins = length-take-le r.taken d i.0 in
      let outs = length-take-le r.given w.room' (omega (arith, i.1, i.2)) in (
        client_bytes (take r.taken d) (take r.given w.room'),
        client_at ks rs s img u d r w.lent w.room',
        client_step (length d) (space cu u) r w.lent w.room' (space_fits cu u hu) p,
        omega (arith, any, ins, outs),
      )
  move_there (inr go) =
      let w = serves_there s t img u (space cd d) in
      let r = w.result in
      let p : Serves s t img (take (length u) u) (space cd d) r w.image w.room' = rw (take-length u) w.serves in
      let any = go (space cd d) r w.image w.room' (some_space cd d) w.serves in
      let i = served_within w.serves in
      let ins = length-take-le r.taken u i.0 in
      let outs = length-take-le r.given w.room' (omega (arith, i.1, i.2)) in (
        server_bytes (take r.taken u) (take r.given w.room'),
        server_at c m ks rs u d r w.image w.room',
        server_step (length u) (space cd d) r w.image w.room' (space_fits cd d hd) p,
        omega (arith, any, ins, outs),
      )
