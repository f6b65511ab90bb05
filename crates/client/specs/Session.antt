-- The client's session, a byte at a time. Everything that moves it stands in this file.
--
-- A client is blank until its handshake is opened. The handshake takes 152 bytes in either style. It judges the first magic after 8 bytes and the
-- second after 16, which tells the style. In the new style it takes 2 bytes of flags, sends 20 bytes and the name, and takes the size (8) and the
-- flags (2); in the old style, which has no names, the size (8) and the flags (4). Then come 124 bytes that must be 0, judged when all are there.
-- From then on the client is ready. A call sends its request of 28 bytes, and a write its payload; then it takes a reply of 16 bytes, judged when
-- all are there, and a read its data, each byte of which reaches the buffer when it is taken. What is lent, the name or the buffer, is the store.
-- While output is owed nothing is taken. Where a call or the handshake has just been closed the session rests, so that a step takes no byte more;
-- the client is then ready, and its next step is idle. "Over" is the end; it rests too.
--
--   Handshake, Progress             where a handshake stands; how far an open call is
--   State                           where a session stands
--   hello n                         the 20 bytes that are sent before a name of n bytes
--   judge_magic, judge_style          the state after so many bytes of the first magic, and of the second
--   oldstyle n                      the old style, which only the empty name goes on with
--   naming, greeting, newstyle      the state when so many bytes are left of the name, of the 20 before it, of a new-style server's flags
--   size_and_flags_length, flags_of     how long the size and the flags are in a style; the flags in these bytes
--   judge_size_and_flags               the state after so many of these bytes
--   judged, filler                  the state behind the last of the 124 bytes; the state when so many of them are left
--   done d c                        the call has succeeded
--   filling, paying, after_request   the state when so many bytes are left of a read's data, of a payload, of a request
--   replied, heard                  the state after the 16 bytes of a reply; the state after so many of them
--   turn                            one byte, with the name or the buffer lent
use Rattle.std.specs.Prelude.{ℕ, zero, suc, ◌-◌, ◌%◌, ◌^◌, Bool, true, false, List, [], ◌∷◌, ◌++◌, eqb, ltb, length, set, take}
use Rattle.machine.specs.Choice.{pick, both}
use Rattle.machine.specs.Machine.{On, on, Turn, gives, takes, rests}
use Rattle.machine.specs.Parts.{less, owing}
use Rattle.wire.specs.Fields.{be, field, same_bytes}
use Rattle.wire.specs.Constants.{NBDMAGIC, IHAVEOPT, OLDSTYLE, NBD_REPLY_MAGIC, NBD_FLAG_C_FIXED_NEWSTYLE, NBD_OPT_EXPORT_NAME}
use Rattle.client.specs.Calls.{fields_of, device, payload, wanted, request_bytes, value_of, moved}
use Rattle.client.specs.declared.state.Device.{Device}
use Rattle.client.specs.declared.state.Call.{Call}
use Rattle.client.specs.declared.state.Value.TheVariants.{Opened}
use Rattle.client.specs.declared.state.Outcome.{Outcome}
use Rattle.client.specs.declared.state.Outcome.TheVariants.{Succeeded, Failed}

pub data Handshake : Type 0 where
  Magic : List ℕ → Handshake  -- the bytes of the first magic so far
  Style : List ℕ → Handshake  -- the bytes of the second magic so far
  Newstyle : ℕ → Handshake  -- a new-style server's flags, never judged: how many bytes are left
  Hello : ℕ → Handshake  -- so many of the 20 bytes before the name are owed
  Naming : ℕ → Handshake  -- so many bytes of the name are owed
  SizeAndFlags : Bool → List ℕ → Handshake  -- whether the style is old, and the bytes of the size and the flags so far
  Filler : ℕ → ℕ → Bool → ℕ → Handshake  -- the size, the flags, whether the filler was 0 so far, and how many bytes of it are left

pub data Progress : Type 0 where
  Asking : ℕ → Progress  -- so many bytes of the request are owed
  Paying : ℕ → Progress  -- so many bytes of the payload are owed
  Hearing : List ℕ → Progress  -- the bytes of the reply so far
  Filling : ℕ → Progress  -- the data of a read: how many bytes are left

pub data State : Type 0 where
  Blank : State
  Shaking : ℕ → Handshake → State  -- the name's length
  Ready : Device → State
  Calling : Device → Call → Progress → State
  Closed : Outcome → Device → State  -- a call or the handshake was just closed, with this outcome
  Over : ℕ → State  -- the session has ended, with this number

-- ---- the handshake
-- "New style sends, after 18 bytes, 00000001, IHAVEOPT, 1, name length, name": what stands before the name
unfoldable pub hello : ℕ → List ℕ
hello n = be 4 NBD_FLAG_C_FIXED_NEWSTYLE ++ IHAVEOPT ++ be 4 NBD_OPT_EXPORT_NAME ++ be 4 n

unfoldable pub judge_magic : ℕ → List ℕ → State
judge_magic n h = pick (ltb (length h) 8) (Shaking n (Magic h)) (pick (same_bytes h NBDMAGIC) (Shaking n (Style [])) (Over 40))

-- "only the empty name"
abbrev pub oldstyle : ℕ → State
oldstyle n = pick (eqb n 0) (Shaking n (SizeAndFlags true [])) (Over 42)

unfoldable pub judge_style : ℕ → List ℕ → State
judge_style n h =
    pick (ltb (length h) 8) (Shaking n (Style h))
    (pick (same_bytes h IHAVEOPT) (Shaking n (Newstyle 2)) (pick (same_bytes h OLDSTYLE) (oldstyle n) (Over 41)))

-- the states that follow where nothing may be left
abbrev pub naming : ℕ → ℕ → State
naming n zero = Shaking n (SizeAndFlags false [])
naming n (suc left) = Shaking n (Naming (suc left))

abbrev pub greeting : ℕ → ℕ → State
greeting n zero = naming n n
greeting n (suc left) = Shaking n (Hello (suc left))

abbrev pub newstyle : ℕ → ℕ → State
newstyle n zero = Shaking n (Hello 20)
newstyle n (suc left) = Shaking n (Newstyle (suc left))

-- the size and the flags: "low 16 bits of the flags count"
abbrev pub size_and_flags_length : Bool → ℕ
size_and_flags_length old = pick old 12 10

abbrev pub flags_of : Bool → List ℕ → ℕ
flags_of old h = pick old (field h 8 4 % 2 ^ 16) (field h 8 2)

unfoldable pub judge_size_and_flags : ℕ → Bool → List ℕ → State
judge_size_and_flags n old h = pick (ltb (length h) (size_and_flags_length old)) (Shaking n (SizeAndFlags old h)) (Shaking n (Filler (field h 0 8) (flags_of old h) true 124))

-- "the 124 bytes when all are there"
abbrev pub judged : ℕ → ℕ → Bool → State
judged size flags clean = pick clean (Closed (Succeeded (Opened size (fields_of flags))) (device size flags)) (Over 43)

abbrev pub filler : ℕ → ℕ → ℕ → Bool → ℕ → State
filler n size flags clean zero = judged size flags clean
filler n size flags clean (suc left) = Shaking n (Filler size flags clean (suc left))

-- ---- a call
abbrev pub done : Device → Call → State
done d c = Closed (Succeeded (value_of c)) (moved d c)

-- the states that follow where nothing may be left
abbrev pub filling : Device → Call → ℕ → State
filling d c zero = done d c
filling d c (suc left) = Calling d c (Filling (suc left))

abbrev pub paying : Device → Call → ℕ → State
paying d c zero = Calling d c (Hearing [])
paying d c (suc left) = Calling d c (Paying (suc left))

abbrev pub after_request : Device → Call → ℕ → State
after_request d c zero = paying d c (payload c)
after_request d c (suc left) = Calling d c (Asking (suc left))

-- "Reply fields are judged after 16 bytes: signature, handle (always 0), error"
unfoldable pub replied : Device → Call → List ℕ → State
replied d c h =
    pick (eqb (field h 0 4) NBD_REPLY_MAGIC)
    (pick (eqb (field h 8 8) 0) (pick (eqb (field h 4 4) 0) (filling d c (wanted c)) (Closed (Failed (field h 4 4)) d)) (Over 46))
    (Over 45)

unfoldable pub heard : Device → Call → List ℕ → State
heard d c h = pick (ltb (length h) 16) (Calling d c (Hearing h)) (replied d c h)

-- ---- one byte
abbrev pub turn : On State → Turn (On State)
turn (on Blank m) = rests
turn (on (Shaking n (Magic got)) m) = takes (λ b. on (judge_magic n (got ++ b ∷ [])) m)
turn (on (Shaking n (Style got)) m) = takes (λ b. on (judge_style n (got ++ b ∷ [])) m)
turn (on (Shaking n (Newstyle left)) m) = takes (λ b. on (newstyle n (less left)) m)
turn (on (Shaking n (Hello left)) m) = gives (owing (hello n) left) (on (greeting n (less left)) m)
turn (on (Shaking n (Naming left)) m) = gives (owing m left) (on (naming n (less left)) m)
turn (on (Shaking n (SizeAndFlags old got)) m) = takes (λ b. on (judge_size_and_flags n old (got ++ b ∷ [])) m)
turn (on (Shaking n (Filler size flags clean left)) m) = takes (λ b. on (filler n size flags (both clean (eqb b 0)) (less left)) m)
turn (on (Ready d) m) = rests
turn (on (Calling d c (Asking left)) m) = gives (owing (request_bytes d c) left) (on (after_request d c (less left)) m)
turn (on (Calling d c (Paying left)) m) = gives (owing (take (payload c) m) left) (on (paying d c (less left)) m)
turn (on (Calling d c (Hearing got)) m) = takes (λ b. on (heard d c (got ++ b ∷ [])) m)
turn (on (Calling d c (Filling left)) m) = takes (λ b. on (filling d c (less left)) (set m (wanted c - left) b))
turn (on (Closed o d) m) = rests
turn (on (Over n) m) = rests
