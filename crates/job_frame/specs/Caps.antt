-- How many bytes of a file are read.
use Rattle.std.specs.Prelude.{ℕ, ◌+◌, ◌^◌, List}
use Rattle.job_frame.specs.Task.{Read}

-- one byte more than the longest file is asked for
abbrev pub most_bytes : ℕ
most_bytes = 2 ^ 26 + 1

-- of a certificate
abbrev pub most_certificate_bytes : ℕ
most_certificate_bytes = 2 ^ 28 + 1

-- the read of a file that is no certificate
abbrev pub file_read : List ℕ → Read
file_read name = record { name = name; most = most_bytes }

abbrev pub certificate_read : List ℕ → Read
certificate_read name = record { name = name; most = most_certificate_bytes }
