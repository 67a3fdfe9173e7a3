-- The statement that a session's own data write.
use Rattle.features.specs.Terms.{Statement, apart}
use Rattle.session.specs.declared.parts.Apart.{Apart}

abbrev pub kept_apart : Apart → Statement
kept_apart a = apart a.left a.right
