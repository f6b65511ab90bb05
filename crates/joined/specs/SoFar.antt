-- What holds of a run as soon as the handshake or a call is closed and no other is open.
--   SoFar   the calls that are closed by then, and that results, image, bytes and wires are as these calls leave them on the plain disk
use Rattle.std.specs.Prelude.{◌≡◌, ℕ, List, [], ◌∷◌, ◌++◌, length}
use Rattle.machine.specs.Traffic.{Traffic}
use Rattle.wire.specs.Results.{Result}
use Rattle.machine.specs.Parts.{placed}
use Rattle.joined.specs.Disk.{Disk, Call, results, final}
use Rattle.joined.specs.Carried.{up_all, down_all}
use Rattle.joined.specs.Said.{said_up, said_down}
use Rattle.joined.specs.Code.{export, disk, opening}

module _ (t img name : List ℕ) (k : ℕ) (ks : List Call) where
  -- the disk that record k of the table stands for
  abbrev plain : Disk
  plain = disk (export t k) img

  -- of a run that carried b and stands where the calls ls are left, the results rs, the image img' and the wires u and d
  pub record SoFar (b : Traffic) (ls : List Call) (rs : List Result) (img' u d : List ℕ) : Type 0 where
    pub closed : List Call
    pub parts : ks ≡ closed ++ ls
    pub same_results : rs ≡ opening (export t k) name ∷ results plain closed
    pub same_image : img' ≡ placed img (export t k).start (final plain closed).bytes
    -- what one gave the other took, to the last byte
    pub client_gave : b.client_out ≡ said_up name plain closed
    pub server_took : b.server_in ≡ said_up name plain closed
    pub server_gave : b.server_out ≡ said_down (export t k) plain closed
    pub client_took : b.client_in ≡ said_down (export t k) plain closed
    pub none_up : u ≡ []
    pub none_down : d ≡ []
    -- as many bytes as 01's formula says
    pub count_up : length b.client_out ≡ up_all name plain closed
    pub count_down : length b.server_out ≡ down_all plain closed
