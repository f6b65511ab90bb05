-- Condition 3. One fresh client, one fresh server, two wires with room for a byte or more, a sound table that holds the name, and any finite list of
-- reads, writes, seeks, flushes and trims. Whatever the order of the steps, the pieces and the rooms:
--   plain_disk      once the handshake and all calls are closed, the results and the image are those of the plain disk
--   outside         and the bytes outside the window are as they were
--   carried_bytes, carried_formula   and the bytes of these calls have gone up and down, as many as 01's formula says
--   same_outcome    so two runs end alike, on wires of any capacities
--   never_refused   no step is refused
--   as_soon_as      at every moment the results so far are the plain disk's first results
--   so_far          and as soon as a call is closed results, image and bytes carried are those of the calls closed by then
--   carries, moves  while the handshake or a call is open, each step of one side carries a byte, and there is such a move
--   bounded         no run carries more than the formula's bytes, each onto a wire and off it
--   closes          every run leads on to one that closes all, and so there is one
--   fair            a host that visits each of the two again and again does
use Prim.Native.Nat.{ℕ, zero, suc, ◌+◌, ◌*◌, ◌≤◌, ◌<◌}
use mathlib.Core.Path.{◌≡◌, refl, sym, ap, ◌∙◌}
use mathlib.Core.Logic.{◌⊎◌, inl, inr}
use mathlib.Core.List.{List, [], ◌∷◌, ◌++◌, append_assoc}
use native.Mathlib.Omega.{arith}
use lib.ListN.{length, take, drop, length-append}
use lib.Seq.{take-append_seam, take_at, drop_at}
use Rattle.machine.specs.Machine.{On, on}
use Rattle.machine.specs.Traffic.{Traffic, total}
use Rattle.machine.specs.Wires as machine
use Rattle.machine.specs.Wires.{Sys, sys, the_client, wire_up, wire_down, Who}
use Rattle.machine.proofs.Talking.{stuck}
use Rattle.machine.proofs.Sides.{capacity}
use Rattle.machine.proofs.Outcome.{talk_midway, talk_bounded, talk_goes_on, talk_fair}
use Rattle.server.specs.Session.{State, turn as serve}
use Rattle.server.specs.Ranges.{refusal}
use Rattle.server.specs.declared.state.Server.{Server}
use Rattle.client.specs.View.{view}
use Rattle.client.specs.Ranges.{refusal as why}
use Rattle.client.specs.declared.state.Client.{Client}
use Rattle.wire.specs.Results.{Result}
use Rattle.machine.specs.Parts.{placed}
use Rattle.joined.specs.Disk.{Disk, Call, results, final}
use Rattle.joined.specs.Carried.{up_all, down_all}
use Rattle.joined.specs.Said.{said_up, said_down}
use Rattle.joined.specs.Code.{Code, joint, Ready, Unclosed, Sized, Move, Runs, AllClosed, Holds, begin, export, disk, opening, ClientCarries, ServerCarries}
use Rattle.joined.specs.Host.{Rounds}
use Rattle.joined.specs.SoFar.{SoFar}
use Rattle.joined.proofs.Runs.{made}
use Rattle.joined.proofs.There.{move_there}
use Rattle.joined.proofs.Closing.{closes_there}
use Rattle.joined.proofs.Driver.{Driver, over, drive}
use Rattle.joined.proofs.Coded.{stands}
use Rattle.joined.proofs.Opening.{front}
use Rattle.joined.proofs.Collecting.{grows}
use Rattle.joined.proofs.Carrying.{unsettled, carried}
use Rattle.joined.proofs.Conversation.{last_round, end, told, talk, length_up, length_down, fit, finished, ended, executed}
use Rattle.joined.proofs.Hosted.{rounds, is_ready, all_made}

module _ {t img name : List ℕ} {k : ℕ} (holds : Holds t img name k) (ks : List Call) where
  -- the disk that record k of the table stands for
  abbrev plain : Disk
  plain = disk (export t k) img

  -- its results: that of the handshake, and those of the calls
  abbrev all : List Result
  all = opening (export t k) name ∷ results plain ks

  -- and the image with its bytes
  abbrev image : List ℕ
  image = placed img (export t k).start (final plain ks).bytes

  module _ {cu cd : ℕ} (wires : Sized cu cd) where
    module _ {b : Traffic} {c : Client} {m : List ℕ} {rs : List Result} {s : Server} {img' u d : List ℕ}
        (run : Runs t cu cd b (begin name ks img) (joint c m [] rs s img' u d)) (closed : Ready c) where
      -- Every run that closes the handshake and all calls gives the results of the plain disk, and its bytes in the window; all other bytes
      -- of the image are as they were.
      pub plain_disk : (rs ≡ all) × (img' ≡ image)
      plain_disk = ended holds ks c m rs s img' u d closed (finished holds ks wires run closed).0

      pub outside : (take (export t k).start img' ≡ take (export t k).start img)
          × (drop ((export t k).start + (export t k).size) img' ≡ drop ((export t k).start + (export t k).size) img)
      outside =
          let r = export t k in
          let before = take r.start img in
          let behind = drop (r.start + r.size) img in
          let bs = (final plain ks).bytes in
          let whole = (told holds ks).whole in
          let l : length (before ++ bs) ≡ r.start + r.size = length-append before bs ∙ omega (arith, front holds, whole) in
          let i : img' ≡ before ++ bs ++ behind = plain_disk.1 ∙ ap (λ (n : ℕ). before ++ bs ++ drop (r.start + n) img) whole in
          rw i
          (rw (append_assoc before bs behind) (take_at before (bs ++ behind) r.start (front holds)), drop_at (before ++ bs) behind (r.start + r.size) l)

      pub carried_bytes : (b.client_out ≡ said_up name plain ks) × (b.server_in ≡ said_up name plain ks)
          × (b.server_out ≡ said_down (export t k) plain ks) × (b.client_in ≡ said_down (export t k) plain ks)
      carried_bytes = rw (finished holds ks wires run closed).1 (refl, refl, refl, refl)

      pub carried_formula : (length b.client_out ≡ up_all name plain ks) × (length b.server_in ≡ up_all name plain ks)
          × (length b.server_out ≡ down_all plain ks) × (length b.client_in ≡ down_all plain ks)
      carried_formula = rw (finished holds ks wires run closed).1 (length_up holds ks, length_up holds ks, length_down holds ks, length_down holds ks)

    module _ {b : Traffic} {c : Client} {m : List ℕ} {ls : List Call} {rs : List Result} {s : Server} {img' u d : List ℕ}
        (run : Runs t cu cd b (begin name ks img) (joint c m ls rs s img' u d)) where
      abbrev here : Sys Driver (On State)
      here = stands (joint c m ls rs s img' u d)

      -- No step is refused, of either side.
      pub never_refused : (why (length m) c ≡ 0) × (refusal t (length img') s ≡ 0)
      never_refused = let f = (executed holds ks run).1 in (f.client_fits, f.server_fits)

      -- The results so far are the first of the plain disk's.
      pub as_soon_as : rs ≡ take (length rs) all
      as_soon_as =
          let w = talk_midway wires.up wires.down (talk holds ks) refl refl (executed holds ks run).0 in
          let g = grows (on (view c) m) ls rs w.after.of_client in
          sym (ap (take (length rs)) g.parts ∙ take-append_seam rs g.more)

      -- As soon as the handshake or a call is closed, results, image and bytes carried are those of the calls closed by then: up to here this is a run of
      -- these calls alone, and it has closed all of them.
      pub so_far : Ready c → SoFar t img name k ks b ls rs img' u d
      so_far i =
          let w = made run in
          let f = finished holds w.calls wires w.run i in
          let o = ended holds w.calls c m rs s img' u d i f.0 in
          record {
            closed = w.calls;
            parts = w.parts;
            same_results = o.0;
            same_image = o.1;
            client_gave = ap (λ (x : Traffic). x.client_out) f.1;
            server_took = ap (λ (x : Traffic). x.server_in) f.1;
            server_gave = ap (λ (x : Traffic). x.server_out) f.1;
            client_took = ap (λ (x : Traffic). x.client_in) f.1;
            none_up = ap wire_up f.0;
            none_down = ap wire_down f.0;
            count_up = ap (λ (x : Traffic). length x.client_out) f.1 ∙ length_up holds w.calls;
            count_down = ap (λ (x : Traffic). length x.server_out) f.1 ∙ length_down holds w.calls;
          }

      module _ (unclosed : Unclosed c) where
        -- Every step of the client, or else every step of the server, on all that is on its wire in and with some room where its wire out has
        -- space, carries a byte.
        pub carries : ClientCarries cu c m u d ⊎ ServerCarries t cd s img' u d
        carries = by (talk_goes_on wires.up wires.down (talk holds ks) refl refl (executed holds ks run).0)
          where
            by : (here ≡ sys (over all) (end holds ks) [] []) ⊎ ((w : Who) × (a : Traffic) × (y : Sys Driver (On State)) × machine.Move drive (serve t) cu cd w a here y)
                → ClientCarries cu c m u d ⊎ ServerCarries t cd s img' u d
            by (inl q) = absurd (let f = sym (unsettled m ls rs (executed holds ks run).1 unclosed) ∙ ap the_client q in let z : ◌≡◌ {A = ℕ} 0 1 = cc f in omega arith)
            by (inr q) = carried m ls rs (executed holds ks run).1 unclosed q.3

        -- And there is such a step: some move carries a byte.
        pub moves : (a : Traffic) × (z : Code) × Move t cu cd a (joint c m ls rs s img' u d) z × (0 < total a)
        moves = let l = capacity (executed holds ks run).0 (omega arith) (omega arith) in move_there c m ls rs s img' u d l.0 l.1 carries

    -- No run carries more bytes than the formula has, each onto a wire and off it.
    pub bounded : {b : Traffic} {z : Code} → Runs t cu cd b (begin name ks img) z → total b ≤ 2 * (up_all name plain ks + down_all plain ks)
    bounded run = rw (length_up holds ks, length_down holds ks) at (talk_bounded wires.up wires.down (talk holds ks) refl refl (executed holds ks run).0)

    -- Every run leads on to one that closes the handshake and all calls: so there is one from the start.
    pub closes : {b : Traffic} {x : Code} → Runs t cu cd b (begin name ks img) x → (a : Traffic) × (z : Code) × Runs t cu cd a x z × AllClosed z
    closes {b} {x} run =
        closes_there (2 * (up_all name plain ks + down_all plain ks)) (λ b x run. (executed holds ks run).1) (λ b x run. bounded run)
        (λ b c m ls rs s img' u d run o. moves run o) b x run

    -- A host that visits each of the two again and again closes all, after one round more than the formula's bytes, each onto a wire and off it.
    pub fair : {n : ℕ} {c : Client} {m : List ℕ} {ls : List Call} {rs : List Result} {s : Server} {img' u d : List ℕ}
        → 2 * (up_all name plain ks + down_all plain ks) < n → Rounds t cu cd n (begin name ks img) (joint c m ls rs s img' u d)
        → Ready c × (ls ≡ []) × (rs ≡ all) × (img' ≡ image)
    fair {n = zero} h r = absurd (omega arith)
    fair {n = suc n} {c = c} {m = m} {ls = ls} {rs = rs} {s = s} {img' = img'} {u = u} {d = d} h r =
        let bound : 2 * (length (said_up name plain ks) + length (said_down (export t k) plain ks)) ≤ n = rw (length_up holds ks, length_down holds ks) (omega arith) in
        let w = last_round r in
        let i = rounds w.1 (fit holds ks) in
        let j = rounds r (fit holds ks) in
        let at_last = talk_fair wires.up wires.down (talk holds ks) refl refl bound i.0 in
        let at_end = talk_fair wires.up wires.down (talk holds ks) refl refl (omega arith) j.0 in
        let made : ls ≡ [] = all_made all w.4 i.1 (rw at_last (stuck refl refl)) (ap the_client at_last) in
        let ready = is_ready ls rs all j.1 (ap the_client at_end) in
        let o = ended holds ks c m rs s img' u d ready (rw made at at_end) in
        (ready, made, o.0, o.1)

  -- Wires, cuttings and orders of moves do not choose the outcome.
  pub same_outcome : {cu cd ku kd : ℕ} → Sized cu cd → Sized ku kd
      → {b b' : Traffic} {c c' : Client} {m m' : List ℕ} {rs rs' : List Result} {s s' : Server} {i j u u' d d' : List ℕ}
      → Runs t cu cd b (begin name ks img) (joint c m [] rs s i u d) → Ready c
      → Runs t ku kd b' (begin name ks img) (joint c' m' [] rs' s' j u' d') → Ready c' → (rs ≡ rs') × (i ≡ j)
  same_outcome w v p x q y =
      let a = plain_disk w p x in
      let b = plain_disk v q y in
      (a.0 ∙ sym b.0, a.1 ∙ sym b.1)
