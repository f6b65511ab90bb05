-- The state that a server stands for, and the one server that stands for a state.
--   handshake_of h, transmission_of h, view_of h    the state that a phase stands for, with the bytes h in `head`: of a handshake, of a transmission, of the whole
--   view s                                       the state that the struct stands for
--   handshake_phase, transmission_phase, phase_of   the phase that stands for a state: of a handshake, of a transmission, of the whole
--   got_shaking, got_serving, gathered             the bytes gathered so far: in a handshake, in a transmission, in any state
--   padded got                                   the array `head` of the bytes gathered, with 0 behind them
--   code x                                       the struct that stands for the state, with 0 in what is not used
--   used_shaking, used_serving, used p             how many bytes of `head` the phase uses: of a handshake, of a transmission, of the whole
use Rattle.std.specs.Prelude.{ℕ, ◌-◌, List, [], ◌++◌, length, take, replicate}
use Rattle.wire.specs.Lookup.{set_of, word}
use Rattle.server.specs.Session.{Handshake, Greeting, ClientFlags, OptionHead, Naming, Passing, Listing, Declining, Aborting, Exporting}
use Rattle.server.specs.Session.{Transmission, Header, Storing, Dropping, Replying, Sending, State, Shaking, Serving, Over}
use Rattle.server.specs.declared.state.Handshake as hs
use Rattle.server.specs.declared.state.Transmission as tr
use Rattle.server.specs.declared.state.Phase as ph
use Rattle.server.specs.declared.state.Server.{Server}

abbrev pub handshake_of : List ℕ → hs.Handshake → Handshake
handshake_of h (hs.Handshake.Greeting left) = Greeting left
handshake_of h (hs.Handshake.ClientFlags have) = ClientFlags (take have h)
handshake_of h (hs.Handshake.OptionHead z have) = OptionHead z (take have h)
handshake_of h (hs.Handshake.Naming n) = Naming n.zeroes (set_of n.fits) n.text n.at n.left
handshake_of h (hs.Handshake.Passing p) = Passing p.zeroes p.option p.len p.left
handshake_of h (hs.Handshake.Listing z left) = Listing z left
handshake_of h (hs.Handshake.Declining d) = Declining d.zeroes d.option d.left
handshake_of h (hs.Handshake.Aborting left) = Aborting left
handshake_of h (hs.Handshake.Exporting x) = Exporting x.zeroes x.export x.left

abbrev pub transmission_of : List ℕ → tr.Transmission → Transmission
transmission_of h (tr.Transmission.Header have) = Header (take have h)
transmission_of h (tr.Transmission.Storing p) = Storing p.handle p.off p.left
transmission_of h (tr.Transmission.Dropping p) = Dropping p.error p.handle p.left
transmission_of h (tr.Transmission.Replying error handle left off len) = Replying error handle left off len
transmission_of h (tr.Transmission.Sending d) = Sending d.off d.left

abbrev pub view_of : List ℕ → ph.Phase → State
view_of h (ph.Phase.Shaking p) = Shaking (handshake_of h p)
view_of h (ph.Phase.Serving e p) = Serving e (transmission_of h p)
view_of h (ph.Phase.Over n) = Over n

abbrev pub view : Server → State
view s = view_of s.head s.phase

-- ---- back
abbrev pub handshake_phase : Handshake → hs.Handshake
handshake_phase (Greeting left) = hs.Handshake.Greeting left
handshake_phase (ClientFlags got) = hs.Handshake.ClientFlags (length got)
handshake_phase (OptionHead z got) = hs.Handshake.OptionHead z (length got)
handshake_phase (Naming z fits text at left) = hs.Handshake.Naming (record { zeroes = z; fits = word fits; text = text; at = at; left = left })
handshake_phase (Passing z option len left) = hs.Handshake.Passing (record { zeroes = z; option = option; len = len; left = left })
handshake_phase (Listing z left) = hs.Handshake.Listing z left
handshake_phase (Declining z option left) = hs.Handshake.Declining (record { zeroes = z; option = option; left = left })
handshake_phase (Aborting left) = hs.Handshake.Aborting left
handshake_phase (Exporting z e left) = hs.Handshake.Exporting (record { zeroes = z; export = e; left = left })

abbrev pub transmission_phase : Transmission → tr.Transmission
transmission_phase (Header got) = tr.Transmission.Header (length got)
transmission_phase (Storing handle off left) = tr.Transmission.Storing (record { handle = handle; off = off; left = left })
transmission_phase (Dropping error handle left) = tr.Transmission.Dropping (record { error = error; handle = handle; left = left })
transmission_phase (Replying error handle left off len) = tr.Transmission.Replying error handle left off len
transmission_phase (Sending off left) = tr.Transmission.Sending (record { off = off; left = left })

abbrev pub phase_of : State → ph.Phase
phase_of (Shaking p) = ph.Phase.Shaking (handshake_phase p)
phase_of (Serving e p) = ph.Phase.Serving e (transmission_phase p)
phase_of (Over n) = ph.Phase.Over n

-- the bytes gathered so far
abbrev pub got_shaking : Handshake → List ℕ
got_shaking (Greeting left) = []
got_shaking (ClientFlags got) = got
got_shaking (OptionHead z got) = got
got_shaking (Naming z fits text at left) = []
got_shaking (Passing z option len left) = []
got_shaking (Listing z left) = []
got_shaking (Declining z option left) = []
got_shaking (Aborting left) = []
got_shaking (Exporting z e left) = []

abbrev pub got_serving : Transmission → List ℕ
got_serving (Header got) = got
got_serving (Storing handle off left) = []
got_serving (Dropping error handle left) = []
got_serving (Replying error handle left off len) = []
got_serving (Sending off left) = []

abbrev pub gathered : State → List ℕ
gathered (Shaking p) = got_shaking p
gathered (Serving e p) = got_serving p
gathered (Over n) = []

-- the array of the bytes gathered, with 0 in those that are not there
abbrev pub padded : List ℕ → List ℕ
padded got = got ++ replicate (28 - length got) 0

abbrev pub code : State → Server
code x = record { phase = phase_of x; head = padded (gathered x) }

-- ---- how many bytes of `head` are used
abbrev pub used_shaking : hs.Handshake → ℕ
used_shaking (hs.Handshake.Greeting left) = 0
used_shaking (hs.Handshake.ClientFlags have) = have
used_shaking (hs.Handshake.OptionHead z have) = have
used_shaking (hs.Handshake.Naming n) = 0
used_shaking (hs.Handshake.Passing p) = 0
used_shaking (hs.Handshake.Listing z left) = 0
used_shaking (hs.Handshake.Declining d) = 0
used_shaking (hs.Handshake.Aborting left) = 0
used_shaking (hs.Handshake.Exporting x) = 0

abbrev pub used_serving : tr.Transmission → ℕ
used_serving (tr.Transmission.Header have) = have
used_serving (tr.Transmission.Storing p) = 0
used_serving (tr.Transmission.Dropping p) = 0
used_serving (tr.Transmission.Replying error handle left off len) = 0
used_serving (tr.Transmission.Sending d) = 0

abbrev pub used : ph.Phase → ℕ
used (ph.Phase.Shaking p) = used_shaking p
used (ph.Phase.Serving e p) = used_serving p
used (ph.Phase.Over n) = 0
