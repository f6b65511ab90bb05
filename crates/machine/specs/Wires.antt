-- Two machines joined by two wires of bounded capacity: cu bytes up, from the client to the server, and cd bytes down.
--   Sys      where all stands: the client, the server, the wire up and the wire down
--   the_client, the_server, wire_up, wire_down   these four
--   Who      one of the two: the client or the server
--   Move     one of the two puts a byte on its wire out, or takes one off its wire in
--   Exec     moves in any order, with the bytes that each of the two took and gave
--   Blocked  one of the two cannot move
--   Stuck    neither can
--   Sides    what an execution is to each of the two, and to the wires
--   Midway   one execution stands on the way of another
--   Talk     the two without wires: each byte that one gives is taken by the other at once
--   Fresh    a place to which no byte taken leads
use Rattle.std.specs.Prelude.{ℕ, ◌<◌, ◌≡◌, List, [], ◌∷◌, ◌++◌, length}
use Rattle.machine.specs.Machine.{Turn, gives, takes, Moves}
use Rattle.machine.specs.Traffic.{Traffic, client_bytes, server_bytes, no_bytes, append}

-- the client, the server, the wire up and the wire down, the oldest byte first
pub data Sys (C S : Type 0) : Type 0 where
  sys : C → S → List ℕ → List ℕ → Sys C S

module _ {C S : Type 0} where
  abbrev pub the_client : Sys C S → C
  the_client (sys c s u d) = c

  abbrev pub the_server : Sys C S → S
  the_server (sys c s u d) = s

  abbrev pub wire_up : Sys C S → List ℕ
  wire_up (sys c s u d) = u

  abbrev pub wire_down : Sys C S → List ℕ
  wire_down (sys c s u d) = d

pub data Who : Type 0 where
  client server : Who

module _ {C S : Type 0} (turnC : C → Turn C) (turnS : S → Turn S) where
  pub data Move (cu cd : ℕ) : Who → Traffic → Sys C S → Sys C S → Type 0 where
    client_gives : {c c' : C} {s : S} {u d : List ℕ} {b : ℕ} → turnC c ≡ gives b c' → length u < cu
        → Move cu cd client (client_bytes [] (b ∷ [])) (sys c s u d) (sys c' s (u ++ b ∷ []) d)
    client_takes : {c : C} {s : S} {u d : List ℕ} {b : ℕ} {k : ℕ → C} → turnC c ≡ takes k
        → Move cu cd client (client_bytes (b ∷ []) []) (sys c s u (b ∷ d)) (sys (k b) s u d)
    server_gives : {c : C} {s s' : S} {u d : List ℕ} {b : ℕ} → turnS s ≡ gives b s' → length d < cd
        → Move cu cd server (server_bytes [] (b ∷ [])) (sys c s u d) (sys c s' u (d ++ b ∷ []))
    server_takes : {c : C} {s : S} {u d : List ℕ} {b : ℕ} {k : ℕ → S} → turnS s ≡ takes k
        → Move cu cd server (server_bytes (b ∷ []) []) (sys c s (b ∷ u) d) (sys c (k b) u d)

  pub data Exec (cu cd : ℕ) : Traffic → Sys C S → Sys C S → Type 0 where
    done : {x : Sys C S} → Exec cu cd no_bytes x x
    next : {a b : Traffic} {w : Who} {x y z : Sys C S} → Move cu cd w a x y → Exec cu cd b y z → Exec cu cd (append a b) x z

  abbrev pub Blocked : ℕ → ℕ → Who → Sys C S → Type 0
  Blocked cu cd w x = (b : Traffic) (y : Sys C S) → Move cu cd w b x y → ⊥

  abbrev pub Stuck : ℕ → ℕ → Sys C S → Type 0
  Stuck cu cd x = (w : Who) → Blocked cu cd w x

  -- Each of the two has made moves of its own; and a wire loses, changes, adds, repeats and reorders nothing: what stood on it and
  -- what was put on it are what was taken off it and what stands on it.
  pub record Sides (b : Traffic) (x y : Sys C S) : Type 0 where
    pub of_client : Moves turnC (the_client x) b.client_in b.client_out (the_client y)
    pub of_server : Moves turnS (the_server x) b.server_in b.server_out (the_server y)
    pub fifo_up : wire_up x ++ b.client_out ≡ b.server_in ++ wire_up y
    pub fifo_down : wire_down x ++ b.server_out ≡ b.client_in ++ wire_down y

  -- An execution that carries `all` leads from x to t, and another that carries `so_far` has come to y: each of the two has taken and
  -- given a first part of what it takes and gives on the whole way, and from y the rest leads to t.
  pub record Midway (cu cd : ℕ) (all : Traffic) (x : Sys C S) (so_far : Traffic) (y t : Sys C S) : Type 0 where
    pub to_come : Traffic
    pub parts : all ≡ append so_far to_come
    pub goes_on : Exec cu cd to_come y t
    pub before : Sides so_far x y
    pub after : Sides to_come y t

  -- the bytes up, and the bytes down
  pub data Talk : List ℕ → List ℕ → C → S → C → S → Type 0 where
    silent : {c : C} {s : S} → Talk [] [] c s c s
    up : {b : ℕ} {us ds : List ℕ} {c d c' : C} {s s' : S} {k : ℕ → S} → turnC c ≡ gives b d → turnS s ≡ takes k
        → Talk us ds d (k b) c' s' → Talk (b ∷ us) ds c s c' s'
    down : {b : ℕ} {us ds : List ℕ} {c c' : C} {s t s' : S} {k : ℕ → C} → turnC c ≡ takes k → turnS s ≡ gives b t
        → Talk us ds (k b) t c' s' → Talk us (b ∷ ds) c s c' s'

abbrev pub Fresh : {S : Type 0} → (S → Turn S) → S → Type 0
Fresh {S} turn s = (r : S) (k : ℕ → S) (b : ℕ) → turn r ≡ takes k → k b ≡ s → ⊥
