-- How the program is called: a line a command.
use Rattle.std.specs.Prelude.{List, ℕ, ◌++◌, codes}

abbrev pub usage_text : List ℕ
usage_text =
    codes "evroute fixed FILE ROUTE [--limit N] [--charge N]\n"
    ++ codes "evroute fleet FILE PLAN CERT [--limit N] [--nodes N]\n"
    ++ codes "evroute check FILE PLAN CERT [--limit N]\n"
    ++ codes "evroute convert FILE OUTFILE --time-digits N --energy-digits N\n"
    ++ codes "evroute make SEED CUSTOMERS STATIONS OUTFILE\n"
    ++ codes "evroute bound FILE CERT --near N [--limit N]\n"
    ++ codes "evroute check-bound FILE CERT [--limit N]\n"
    ++ codes "evroute prove FILE ROUTE CERT [--limit N] [--charge N]\n"
    ++ codes "evroute check-route FILE ROUTE CERT [--limit N] [--charge N]\n"
    ++ codes "evroute improve FILE PLAN OUTFILE [--limit N]\n"
    ++ codes "evroute mixed PLAN CERT FILE.. [--limit N]\n"
    ++ codes "evroute check-mixed PLAN CERT FILE.. [--limit N]\n"
