-- What is asked at the admin port, and the text of its replies (docs/OPERATION.md).
use Rattle.std.specs.Prelude.{ℕ, List, ◌++◌, bytes_eq, codes, length, if◌then◌else◌}
use Rattle.std.specs.Fmt.{decimal}
use Rattle.mx_admin.specs.declared.calls.AdminCall.{AdminCall}
use Rattle.mx_admin.specs.declared.calls.AdminCall.TheVariants.{Health, Metrics, Rooms, HostRoom, UnknownMethod, UnknownPath}

abbrev pub by_get : List ℕ → AdminCall → AdminCall
by_get method call = if bytes_eq method (codes "GET") then call else UnknownMethod

abbrev pub of_rooms : List ℕ → AdminCall
of_rooms method = if bytes_eq method (codes "POST") then HostRoom else by_get method Rooms

abbrev pub call_of : (method path : List ℕ) → AdminCall
call_of method path =
    if bytes_eq path (codes "/health") then by_get method Health
    else (if bytes_eq path (codes "/metrics") then by_get method Metrics
    else (if bytes_eq path (codes "/rooms") then of_rooms method
    else UnknownPath))

-- a response with a body of this media type, behind which the connection is closed
abbrev pub response_text : (status : ℕ) → (reason media body : List ℕ) → List ℕ
response_text status reason media body =
    codes "HTTP/1.1 " ++ (decimal status ++ (codes " " ++ (reason
    ++ (codes "\r\nContent-Type: " ++ (media ++ (codes "\r\nContent-Length: " ++ (decimal (length body)
    ++ (codes "\r\nConnection: close\r\n\r\n" ++ body))))))))
