-- Each statement's proof.
use Rattle.container_writer_statements.proofs.Told.{told, single_valued}
use Rattle.container_writer_statements.proofs.StoredLaws.{stored}
use Rattle.container_writer_statements.proofs.WordsBack.{header_words}
use Rattle.container_writer_statements.proofs.StreamBack.{read_back}
use Rattle.container_writer_statements.proofs.RoleLaws.{the_roles}
use Rattle.container_writer_statements.proofs.FreeLaws.{free_map}
use Rattle.container_writer_statements.proofs.ZeroLaws.{zeros}
use Rattle.container_writer_statements.proofs.OwnLaws.{own_bytes_only}
use Rattle.container_writer_statements.proofs.Exactly.{refused_exactly}

pub ruleset statements = (told, single_valued, stored, read_back, the_roles, header_words, free_map, zeros, own_bytes_only, refused_exactly)
