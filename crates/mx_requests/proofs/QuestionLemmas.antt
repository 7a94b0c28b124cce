-- What a body asks about missing events, of a room.
use Rattle.std.proofs.Common.{◌≡◌, ℕ, List, sym, ap}
use Rattle.std.specs.Prelude.{Option, option_map}
use Rattle.serde_json.specs.Data.{Data}
use Rattle.mx_room.specs.declared.queries.Query.{Query}
use Rattle.mx_room.specs.declared.queries.Query.TheVariants as ask
use Rattle.mx_body.specs.Bodies.{Question, question_of}
use Rattle.mx_requests.specs.Requests.{missing_query}

abbrev query_of : List ℕ → Question → Query
query_of room q = ask.Missing room q.earliest q.latest q.limit q.min_depth

-- a question that was read, and none
pub query-is : (room : List ℕ) (d : Data) (o : Option Question) → o ≡ question_of d → missing_query room d ≡ option_map (query_of room) o
query-is room d o e = ap (option_map (query_of room)) (sym e)
