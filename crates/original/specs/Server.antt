-- A server's session as document 000 has it, and 01's oracle domain.
--   window, windowed   the device of an export: its part of the image; the image with that part's bytes in their place
--   in_image        what the transmission comes to, with the image in place of the window
--   serve m        the session behind what the handshake came to
--   session t m    the handshake, then the transmission on the window of the export that was chosen
--   passes e       a request of length above 0 that passes the window's end
--   read_past, write_past, write_read_only, write_cut   01's exclusions, of one request
--   excluded, excluded_at   any of them, of a request's fields and what is left behind them; of the request at the front of the input
--   Onward, Within   what is asked of the rest where the loop goes on; no request that the loop comes to is excluded
--   DomainAfter m  the domain behind what the handshake came to
--   Domain t m     no request that the session comes to is excluded
--   end_of y        the number that the machine ends with
--   Same           a session of the machine is as a result says
use Rattle.std.specs.Prelude.{ℕ, zero, suc, ◌+◌, ◌≡◌, Bool, false, List, ◌++◌, eqb, ltb, length, take, drop}
use Rattle.machine.specs.Choice.{both, either}
use Rattle.wire.specs.declared.table.Export.{Export}
use Rattle.server.specs.Session.{State, Shaking, Serving, Over}
use Rattle.original.specs.Consts.{NBD_CMD_READ, NBD_CMD_WRITE}
use Rattle.original.specs.Leaves.{table_fields}
use Rattle.original.specs.Connection.{ended, Served, sends}
use Rattle.original.specs.Handshake.{Shaken, chose, failed, handshake}
use Rattle.original.specs.Transmission.{Next, again, stop, header, one_request, transmission}

abbrev pub window : Export → List ℕ → List ℕ
window e m = take e.size (drop e.start m)

abbrev pub windowed : List ℕ → Export → List ℕ → List ℕ
windowed m e bytes = take e.start m ++ bytes ++ drop (e.start + e.size) m

-- the device is the window; what it holds afterwards stands in the image
abbrev pub in_image : List ℕ → Export → Served → Served
in_image m e r = record { left = r.left; sent = r.sent; device = windowed m e r.device; outcome = r.outcome }

abbrev pub serve : List ℕ → Shaken → Served
serve m (failed n left sent) = record { left = left; sent = sent; device = m; outcome = ended n }
serve m (chose e left sent) = sends sent (in_image m e (transmission (suc (length left)) (window e m) left))

abbrev pub session : List ℕ → List ℕ → List ℕ → Served
session t m input = serve m (handshake t input)

-- ---- the oracle domain: "all requests except a READ of length above 0 that passes the window's end, a WRITE of length above 0 that passes it, a WRITE
-- on a read-only export, and a WRITE cut inside its payload"
abbrev pub passes : Export → ℕ → ℕ → Bool
passes e offset len = both (ltb 0 len) (ltb e.size (offset + len))

abbrev pub read_past : Export → ℕ → ℕ → ℕ → Bool
read_past e typ offset len = both (eqb typ NBD_CMD_READ) (passes e offset len)

abbrev pub write_past : Export → ℕ → ℕ → ℕ → Bool
write_past e typ offset len = both (eqb typ NBD_CMD_WRITE) (passes e offset len)

abbrev pub write_read_only : Export → ℕ → Bool
write_read_only e typ = both (eqb typ NBD_CMD_WRITE) (table_fields e.flags).readonly

abbrev pub write_cut : ℕ → ℕ → List ℕ → Bool
write_cut typ len left = both (eqb typ NBD_CMD_WRITE) (ltb (length left) len)

abbrev pub excluded : Export → ℕ → ℕ → ℕ → List ℕ → Bool
excluded e typ offset len left =
    either (read_past e typ offset len) (either (write_past e typ offset len) (either (write_read_only e typ) (write_cut typ len left)))

-- the request at the front of the input; where there is none, nothing is excluded
abbrev pub excluded_at : Export → List ℕ → Bool
excluded_at e input = header input false (λ left. false) (λ typ handle offset len left. excluded e typ offset len left)

-- every request that the loop comes to
abbrev pub Onward : Next → (List ℕ → List ℕ → Type 0) → Type 0
Onward (again sent device left) More = More device left
Onward (stop sent device left outcome) More = Unit {0}

unfoldable pub Within : ℕ → Export → List ℕ → List ℕ → Type 0
Within zero e device input = Unit {0}
Within (suc k) e device input = (excluded_at e input ≡ false) × Onward (one_request device input) (Within k e)

abbrev pub DomainAfter : List ℕ → Shaken → Type 0
DomainAfter m (failed n left sent) = Unit {0}
DomainAfter m (chose e left sent) = Within (suc (length left)) e (window e m) left

abbrev pub Domain : List ℕ → List ℕ → List ℕ → Type 0
Domain t m input = DomainAfter m (handshake t input)

-- ---- the machine's side: what a session that stands at y, with nothing owed, ends with once the host has reported the end of input
abbrev pub end_of : State → ℕ
end_of (Shaking p) = 12
end_of (Serving e p) = 12
end_of (Over n) = n

-- a session that stands at y with the image m', where these bytes were given and those of the input are left, is as the result says
pub record Same (r : Served) (given : List ℕ) (y : State) (m' rest : List ℕ) : Type 0 where
  pub same_left : rest ≡ r.left
  pub same_sent : given ≡ r.sent
  pub same_image : m' ≡ r.device
  pub same_end : ended (end_of y) ≡ r.outcome
