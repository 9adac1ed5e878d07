-- What of std stands in each adapter.
use Rattle.hsm_system.specs.declared.files.SystemFile.{SystemFile}
use Rattle.hsm_system.specs.declared.files.Output.{Output}
use Rattle.hsm_system.specs.declared.sockets.SystemLink.{SystemLink}

-- the reader of a file
abbrev pub reader_of : {R : Type 0} → SystemFile R → R
reader_of file = file.reader

-- the writer of an output
abbrev pub writer_of : {W : Type 0} → Output W → W
writer_of output = output.writer

-- the stream of a connection
abbrev pub stream_of : {S : Type 0} → SystemLink S → S
stream_of link = link.stream
