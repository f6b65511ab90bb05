-- The bytes that two machines have taken and given.
--   Traffic                       what the client took and gave, and what the server did
--   client_bytes, server_bytes  only one of the two moved
--   talk_bytes                  each byte that one gave the other took
--   no_bytes, append, total     nothing; some and then more; how many in all
use Rattle.std.specs.Prelude.{ℕ, ◌+◌, List, [], ◌++◌, length}

pub record Traffic : Type 0 where
  pub client_in : List ℕ
  pub client_out : List ℕ
  pub server_in : List ℕ
  pub server_out : List ℕ

abbrev pub client_bytes : List ℕ → List ℕ → Traffic
client_bytes is os = record { client_in = is; client_out = os; server_in = []; server_out = [] }

abbrev pub server_bytes : List ℕ → List ℕ → Traffic
server_bytes is os = record { client_in = []; client_out = []; server_in = is; server_out = os }

abbrev pub talk_bytes : List ℕ → List ℕ → Traffic
talk_bytes us ds = record { client_in = ds; client_out = us; server_in = us; server_out = ds }

abbrev pub no_bytes : Traffic
no_bytes = record { client_in = []; client_out = []; server_in = []; server_out = [] }

abbrev pub append : Traffic → Traffic → Traffic
append a b = record {
  client_in = a.client_in ++ b.client_in;
  client_out = a.client_out ++ b.client_out;
  server_in = a.server_in ++ b.server_in;
  server_out = a.server_out ++ b.server_out;
}

abbrev pub total : Traffic → ℕ
total a = (length a.client_in + length a.client_out) + (length a.server_in + length a.server_out)
