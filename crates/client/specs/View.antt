-- The state that a client stands for, and the one client that stands for a state.
--   filler_of p                                the state that a filler under way stands for
--   handshake_of h, progress_of h, view_of h     the state that a phase stands for, with the bytes h in `head`: of a handshake, of a call, of the whole
--   view s                                    the state that the struct stands for
--   handshake_phase, progress_phase, phase_of    the phase that stands for a state: of a handshake, of a call, of the whole
--   got_shaking, got_calling, gathered          the bytes gathered so far: in a handshake, in a call, in any state
--   padded got                                the array `head` of the bytes gathered, with 0 behind them
--   code x                                    the struct that stands for the state, with 0 in what is not used
--   used_shaking, used_calling, used p          how many bytes of `head` the phase uses: of a handshake, of a call, of the whole
use Rattle.std.specs.Prelude.{ℕ, ◌-◌, List, [], ◌++◌, length, take, replicate}
use Rattle.client.specs.Session.{Handshake, Magic, Style, Newstyle, Hello, Naming, SizeAndFlags, Filler, Progress, Asking, Paying, Hearing, Filling}
use Rattle.client.specs.Session.{State, Blank, Shaking, Ready, Calling, Closed, Over}
use Rattle.client.specs.declared.state.Handshake as hs
use Rattle.client.specs.declared.state.Filler as fl
use Rattle.client.specs.declared.state.Progress as pr
use Rattle.client.specs.declared.state.Phase as ph
use Rattle.client.specs.declared.state.Client.{Client}

abbrev pub filler_of : fl.Filler → Handshake
filler_of p = Filler p.size p.flags p.clean p.left

abbrev pub handshake_of : List ℕ → hs.Handshake → Handshake
handshake_of h (hs.Handshake.Magic have) = Magic (take have h)
handshake_of h (hs.Handshake.Style have) = Style (take have h)
handshake_of h (hs.Handshake.Newstyle left) = Newstyle left
handshake_of h (hs.Handshake.Hello left) = Hello left
handshake_of h (hs.Handshake.Naming left) = Naming left
handshake_of h (hs.Handshake.SizeAndFlags old have) = SizeAndFlags old (take have h)
handshake_of h (hs.Handshake.Filler p) = filler_of p

abbrev pub progress_of : List ℕ → pr.Progress → Progress
progress_of h (pr.Progress.Asking left) = Asking left
progress_of h (pr.Progress.Paying left) = Paying left
progress_of h (pr.Progress.Hearing have) = Hearing (take have h)
progress_of h (pr.Progress.Filling left) = Filling left

abbrev pub view_of : List ℕ → ph.Phase → State
view_of h ph.Phase.Blank = Blank
view_of h (ph.Phase.Shaking n p) = Shaking n (handshake_of h p)
view_of h (ph.Phase.Ready d) = Ready d
view_of h (ph.Phase.Calling d c p) = Calling d c (progress_of h p)
view_of h (ph.Phase.Closed o d) = Closed o d
view_of h (ph.Phase.Over n) = Over n

abbrev pub view : Client → State
view s = view_of s.head s.phase

-- ---- back
abbrev pub handshake_phase : Handshake → hs.Handshake
handshake_phase (Magic got) = hs.Handshake.Magic (length got)
handshake_phase (Style got) = hs.Handshake.Style (length got)
handshake_phase (Newstyle left) = hs.Handshake.Newstyle left
handshake_phase (Hello left) = hs.Handshake.Hello left
handshake_phase (Naming left) = hs.Handshake.Naming left
handshake_phase (SizeAndFlags old got) = hs.Handshake.SizeAndFlags old (length got)
handshake_phase (Filler size flags clean left) = hs.Handshake.Filler (record { size = size; flags = flags; clean = clean; left = left })

abbrev pub progress_phase : Progress → pr.Progress
progress_phase (Asking left) = pr.Progress.Asking left
progress_phase (Paying left) = pr.Progress.Paying left
progress_phase (Hearing got) = pr.Progress.Hearing (length got)
progress_phase (Filling left) = pr.Progress.Filling left

abbrev pub phase_of : State → ph.Phase
phase_of Blank = ph.Phase.Blank
phase_of (Shaking n p) = ph.Phase.Shaking n (handshake_phase p)
phase_of (Ready d) = ph.Phase.Ready d
phase_of (Calling d c p) = ph.Phase.Calling d c (progress_phase p)
phase_of (Closed o d) = ph.Phase.Closed o d
phase_of (Over n) = ph.Phase.Over n

-- the bytes gathered so far
abbrev pub got_shaking : Handshake → List ℕ
got_shaking (Magic got) = got
got_shaking (Style got) = got
got_shaking (Newstyle left) = []
got_shaking (Hello left) = []
got_shaking (Naming left) = []
got_shaking (SizeAndFlags old got) = got
got_shaking (Filler size flags clean left) = []

abbrev pub got_calling : Progress → List ℕ
got_calling (Asking left) = []
got_calling (Paying left) = []
got_calling (Hearing got) = got
got_calling (Filling left) = []

abbrev pub gathered : State → List ℕ
gathered Blank = []
gathered (Shaking n p) = got_shaking p
gathered (Ready d) = []
gathered (Calling d c p) = got_calling p
gathered (Closed o d) = []
gathered (Over n) = []

-- the array of the bytes gathered, with 0 in those that are not there
abbrev pub padded : List ℕ → List ℕ
padded got = got ++ replicate (16 - length got) 0

abbrev pub code : State → Client
code x = record { phase = phase_of x; head = padded (gathered x) }

-- ---- how many bytes of `head` are used
abbrev pub used_shaking : hs.Handshake → ℕ
used_shaking (hs.Handshake.Magic have) = have
used_shaking (hs.Handshake.Style have) = have
used_shaking (hs.Handshake.Newstyle left) = 0
used_shaking (hs.Handshake.Hello left) = 0
used_shaking (hs.Handshake.Naming left) = 0
used_shaking (hs.Handshake.SizeAndFlags old have) = have
used_shaking (hs.Handshake.Filler p) = 0

abbrev pub used_calling : pr.Progress → ℕ
used_calling (pr.Progress.Asking left) = 0
used_calling (pr.Progress.Paying left) = 0
used_calling (pr.Progress.Hearing have) = have
used_calling (pr.Progress.Filling left) = 0

abbrev pub used : ph.Phase → ℕ
used ph.Phase.Blank = 0
used (ph.Phase.Shaking n p) = used_shaking p
used (ph.Phase.Ready d) = 0
used (ph.Phase.Calling d c p) = used_calling p
used (ph.Phase.Closed o d) = 0
used (ph.Phase.Over n) = 0
